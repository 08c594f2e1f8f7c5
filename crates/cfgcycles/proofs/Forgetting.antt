-- Rules are forgotten one by one, until none is recorded as found.
use Rattle.std.proofs.Common.{◌≡◌, ℕ, suc, ◌+◌, ◌<◌, inl, inr, List, [], ◌∷◌, Option, Some, None, Contains, get_or, length, replicate, slice_set, take, refl, sym, ap, ◌∙◌, get_or-set_same}
use Rattle.lemmas.proofs.Elements.{get_or-set}
use Rattle.lemmas.proofs.Taken.{contains_taken}
use Rattle.cfgcycles.specs.declared.shortest.Found.{Found}
use Rattle.cfgcycles.specs.Inner.Layers.{noted}

some_is_none : (f : Found) → None ≡ Some f → ⊥
some_is_none f e = cc

-- those of the first i rules were forgotten
abbrev pub AreForgotten : List (Option Found) → List ℕ → List (Option Found) → Type 0
AreForgotten old rules now = (rule : ℕ) (found : Found) → noted now rule ≡ Some found → (noted old rule ≡ Some found) × (Contains rules rule → ⊥)

pub one_forgotten : (old now new : List (Option Found)) (rules : List ℕ) (i rule : ℕ) → i < length rules → rule ≡ get_or rules i rule → rule < length now
    → new ≡ slice_set now rule None → AreForgotten old (take i rules) now → AreForgotten old (take (i + 1) rules) new
one_forgotten old now new rules i rule lt at within is before r f h = elim (get_or-set now rule r None None) [
  | inl same ↦
      let b = before r f (sym same ∙ here) in (
        b.0,
        λ c. elim ((contains_taken rules i rule lt at r).0 c) [
          | inl earlier ↦ b.1 earlier
          | inr this ↦ some_is_none f (sym (get_or-set_same now rule None None within) ∙ ap (noted (slice_set now rule None)) (sym this) ∙ here)
        ],
      )
  | inr put ↦ absurd (some_is_none f (sym put.1 ∙ here))
]
  where
    here : noted (slice_set now rule None) r ≡ Some f
    here = ap (λ l. noted l r) (sym is) ∙ h

all_none : (table : List (Option Found)) → ((rule : ℕ) → noted table rule ≡ None) → table ≡ replicate (length table) None
all_none [] none = refl
all_none (o ∷ table) none = ap (λ x. x ∷ table) (none 0) ∙ ap (λ l. None ∷ l) (all_none table (λ rule. none (suc rule)))

-- if all rules that were found are forgotten, nothing is recorded
pub nothing_left : (n : ℕ) (table now : List (Option Found)) (rules : List ℕ) → length now ≡ n
    → ((rule : ℕ) (found : Found) → noted table rule ≡ Some found → Contains rules rule) → AreForgotten table rules now → now ≡ replicate n None
nothing_left n table now rules long all h = all_none now none ∙ ap (λ k. replicate k None) long
  where
    none : (rule : ℕ) → noted now rule ≡ None
    none rule = go (noted now rule) refl
      where
        go : (o : Option Found) → noted now rule ≡ o → noted now rule ≡ None
        go None e = e
        go (Some f) e = let w = h rule f e in absurd (w.1 (all rule f w.0))
