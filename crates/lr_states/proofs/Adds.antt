-- Edges that are added, one after another.
use Rattle.std.proofs.Common.{◌≡◌, ◌⊎◌, inl, inr, ℕ, ◌+◌, ◌<◌, List, [], ◌∷◌, ◌++◌, Contains, get_or, slice_set, length, refl, sym, subst, ◌∙◌, arith, length-set}
use Rattle.std.proofs.lemmas.Bool.{cases_eq}
use Rattle.std.proofs.lemmas.List.Elements.{Contains-append_left, Contains-push, Contains-push_cases}
use Rattle.lemmas.proofs.Adding.{Adds, set_adds}
use Rattle.lemmas.proofs.Adding as adding
use Rattle.lr_states.specs.Inner.Edges.{AddsEdges, Below}

pub adds_none : (Found : ℕ → ℕ → Type 0) (edges : List (List ℕ)) → ((a b : ℕ) → Found a b → ⊥) → AddsEdges Found edges edges
adds_none Found edges none = record { shape = refl; edges = λ a b. ((λ h. inl h), (λ h. elim h [ inl i ↦ i | inr i ↦ absurd (none a b i) ])) }

pub adds_as : (Found Found' : ℕ → ℕ → Type 0) (old new : List (List ℕ)) → ((a b : ℕ) → Found a b → Found' a b) → ((a b : ℕ) → Found' a b → Found a b) → AddsEdges Found old new
    → AddsEdges Found' old new
adds_as Found Found' old new to from w = record {
  shape = w.shape;
  edges = λ a. adding.adds_as (Found' a) (λ b i. inr (to a b i)) (λ b i. inr (from a b i)) (w.edges a);
}

pub adds_then : (Found Found' : ℕ → ℕ → Type 0) (old mid new : List (List ℕ)) → AddsEdges Found old mid → AddsEdges Found' mid new → AddsEdges (λ a b. Found a b ⊎ Found' a b) old new
adds_then Found Found' old mid new w v = record { shape = v.shape ∙ w.shape; edges = λ a. adding.adds_then (w.edges a) (v.edges a) }

-- one edge
abbrev pub IsOne : ℕ → ℕ → ℕ → ℕ → Type 0
IsOne from to a b = (a ≡ from) × (b ≡ to)

pub adds_one : (old new : List (List ℕ)) (from to : ℕ) → from < length old → new ≡ slice_set old from (get_or old from [] ++ to ∷ []) → AddsEdges (IsOne from to) old new
adds_one old new from to within is = subst (AddsEdges (IsOne from to) old) (sym is) (record {
  shape = length-set old from (list ++ to ∷ []);
  edges = λ a. set_adds Contains (λ b. b ≡ to) old from (list ++ to ∷ []) [] within pushed a;
})
  where
    list : List ℕ
    list = get_or old from []

    pushed : Adds (λ b. b ≡ to) (Contains list) (Contains (list ++ to ∷ []))
    pushed b = (
      (λ h. elim (Contains-push_cases list to b h) [ inl early ↦ inl early | inr last ↦ inr (sym last) ]),
      (λ h. elim h [
        | inl early ↦ Contains-append_left list (to ∷ []) b early
        | inr last ↦ subst (Contains (list ++ to ∷ [])) (sym last) (Contains-push list to)
      ]),
    )

module _ (Finds : ℕ → ℕ → ℕ → Type 0) where
  pub below_none : (edges : List (List ℕ)) → AddsEdges (Below Finds 0) edges edges
  below_none edges = adds_none (Below Finds 0) edges (λ a b h. let low = h.below in absurd (omega (arith, low)))

  pub below_more : (i : ℕ) (old mid new : List (List ℕ)) → AddsEdges (Below Finds i) old mid → AddsEdges (Finds i) mid new → AddsEdges (Below Finds (i + 1)) old new
  below_more i old mid new w v = adds_as (λ a b. Below Finds i a b ⊎ Finds i a b) (Below Finds (i + 1)) old new
      (λ a b h. elim h [
        | inl k ↦ let low = k.below in record { index = k.index; below = omega (arith, low); finds = k.finds }
        | inr k ↦ record { index = i; below = omega arith; finds = k }
      ])
      (λ a b k. elim (cases_eq k.index i) [
        | inl same ↦ inr (subst (λ m. Finds m a b) same k.finds)
        | inr apart ↦ let low = k.below in inl (record { index = k.index; below = omega (arith, low, apart); finds = k.finds })
      ])
      (adds_then (Below Finds i) (Finds i) old mid new w v)
