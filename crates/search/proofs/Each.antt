-- What each of some things finds is reached, one thing after another.
use Rattle.std.proofs.Common.{◌≡◌, ◌↔◌, ◌⊎◌, Contains, refl, ℕ, ◌+◌, ◌<◌, ◌≤◌, inl, inr, List, [], Some, get_or, slice_get, length, map, take, arith, sym, ap, subst, ◌∙◌}
use Rattle.std.proofs.lemmas.List.{get_or-map, length-map, take_all}
use Rattle.std.proofs.lemmas.Option.{get_or_from_slice_get}
use Rattle.lemmas.proofs.Elements.{element_at}
use Rattle.lemmas.proofs.Taken.{contains_taken}
use Rattle.search.specs.Reachable.{SearchState, Reaches, FoundBy}
use Rattle.search.proofs.Reaching.{reaches_known, reaches_as, reaches_then}

pub each_none : {A : Type 0} (Finds : A → ℕ → Type 0) (x : SearchState) → Reaches (FoundBy Finds []) x x
each_none Finds x = reaches_known _ x (λ n h. absurd (omega (arith, h.among.1)))

module _ {A : Type 0} (Finds : A → ℕ → Type 0) (things : List A) where
  pub each_more : (i : ℕ) (thing : A) (old mid new : SearchState) → i < length things → thing ≡ get_or things i thing
      → Reaches (FoundBy Finds (take i things)) old mid → Reaches (Finds thing) mid new → Reaches (FoundBy Finds (take (i + 1) things)) old new
  each_more i thing old mid new lt is w v = reaches_as _ _ old new
      (λ n h. elim h [
        | inl k ↦ record { thing = k.thing; among = (taken k.thing).1 (inl k.among); finds = k.finds }
        | inr k ↦ record { thing = thing; among = (taken thing).1 (inr refl); finds = k }
      ])
      (λ n k. elim ((taken k.thing).0 k.among) [
        | inl j ↦ inl (record { thing = k.thing; among = j; finds = k.finds })
        | inr e ↦ inr (subst (λ t. Finds t n) e k.finds)
      ])
      (reaches_then _ _ old mid new w v)
    where
      taken : (t : A) → Contains (take (i + 1) things) t ↔ (Contains (take i things) t ⊎ (t ≡ thing))
      taken = contains_taken things i thing lt is

  pub each_all : (i : ℕ) (old new : SearchState) → length things ≤ i → Reaches (FoundBy Finds (take i things)) old new → Reaches (FoundBy Finds things) old new
  each_all i old new le w = subst (λ l. Reaches (FoundBy Finds l) old new) (take_all i things le) w

-- mapping the things first finds the same
pub found_mapped : {A B : Type 0} (show : A → B) (Finds : B → ℕ → Type 0) (things : List A) (old new : SearchState)
    → Reaches (FoundBy (λ t. Finds (show t)) things) old new → Reaches (FoundBy Finds (map show things)) old new
found_mapped {A} {B} show Finds things old new w = reaches_as _ _ old new
    (λ n h. record {
      thing = show h.thing;
      among = (
        h.among.0,
        subst (λ m. h.among.0 < m) (sym (length-map things show)) h.among.1,
        get_or-map show things h.among.0 h.thing (show h.thing) h.among.1 ∙ ap show h.among.2,
      );
      finds = h.finds;
    })
    (λ n h. from n h (element_at things h.among.0 (subst (λ m. h.among.0 < m) (length-map things show) h.among.1)))
    w
  where
    from : (n : ℕ) (h : FoundBy Finds (map show things) n) → (t : A) × (slice_get things h.among.0 ≡ Some t) → FoundBy (λ t. Finds (show t)) things n
    from n h t =
        let within = subst (λ m. h.among.0 < m) (length-map things show) h.among.1 in
        let at : get_or things h.among.0 t.0 ≡ t.0 = get_or_from_slice_get things h.among.0 t.0 t.0 t.1 in
        let is : show t.0 ≡ h.thing = sym (get_or-map show things h.among.0 t.0 h.thing within ∙ ap show at) ∙ h.among.2 in
        record { thing = t.0; among = (h.among.0, within, at); finds = subst (λ b. Finds b n) (sym is) h.finds }
