-- The list of a rule has the numbers of its productions.
use Rattle.std.proofs.Common.{◌≡◌, ℕ, inl, inr, suc, ◌<◌, ◌==◌, nat_eq, List, [], ◌∷◌, length, count_by, get_or, slice_get, Some, option_map, All, Contains, if◌then◌else◌, sym, ap, subst, ◌∙◌, arith}
use Rattle.std.proofs.lemmas.Bool.{cases_Bool, cases_eq}
use Rattle.std.proofs.lemmas.Bool.Decides.{Decides-eqb}
use Rattle.std.proofs.lemmas.List.{length-map, get_or-map}
use Rattle.std.proofs.lemmas.List.Elements.{Contains-append_left, Contains-append_right, Contains-append_cases, Contains-push, Contains-push_cases}
use Rattle.std.proofs.lemmas.Option.{get_or_from_slice_get}
use Rattle.lemmas.proofs.Elements.{element_at}
use Rattle.cfgtables.specs.Openings.{nth_production}
use Rattle.cfgtables.specs.Openings.{ArePositionsOf}
use Rattle.cfgnumbers.specs.Numbered.{Numbered, NumberedProduction, core, production_core}
use Rattle.cfgnumbers.specs.Accessors.{rule_part}
use Rattle.cfgnumbers.specs.WellNumbered.{ListsEachOnce}
use Rattle.cfgnumbers.proofs.Listed.{counted_here, counted_elsewhere}

-- a number is in a list exactly if it occurs there at least once
counted-contained : (p : ℕ) (l : List ℕ) → Contains l p → count_by (nat_eq p) l ≡ 0 → ⊥
counted-contained p [] h e = omega (arith, h.1)
counted-contained p (x ∷ l) h e = elim (cases_eq p x) [
  | inl same ↦ omega (arith, counted_here p x l same, e)
  | inr apart ↦ elim (Contains-append_cases (x ∷ []) l p h) [
    | inl i ↦ elim (Contains-push_cases [] x p i) [ inl j ↦ omega (arith, j.1) | inr j ↦ apart (sym j) ]
    | inr i ↦ counted-contained p l i (sym (counted_elsewhere p x l apart) ∙ e)
  ]
]

contained-counted : (p n : ℕ) (l : List ℕ) → count_by (nat_eq p) l ≡ suc n → Contains l p
contained-counted p n [] e = absurd (omega (arith, e))
contained-counted p n (x ∷ l) e = elim (cases_eq p x) [
  | inl same ↦ Contains-append_left (x ∷ []) l p (subst (λ y. Contains (y ∷ []) p) same (Contains-push [] p))
  | inr apart ↦ Contains-append_right (x ∷ []) l p (contained-counted p n l (sym (counted_elsewhere p x l apart) ∙ e))
]

module _ (g : Numbered) (r : ℕ) (listed : List ℕ) (is : ListsEachOnce g) (at : rule_part (λ x. x.productions) g r ≡ Some listed) where
  owner_at : (p : ℕ) (x : NumberedProduction) → slice_get g.productions p ≡ Some x → p < length g.productions → (nth_production (core g) p).rule ≡ x.rule
  owner_at p x read lt = ap (λ y. y.rule) (get_or-map production_core g.productions p x _ lt ∙ ap production_core (get_or_from_slice_get g.productions p x x read))

  often : (p : ℕ) (x : NumberedProduction) → slice_get g.productions p ≡ Some x → count_by (nat_eq p) listed ≡ (if r == x.rule then 1 else 0)
  often p x read = is p x.rule r listed (ap (option_map (λ y. y.rule)) read) at

  owned : (p owner : ℕ) → count_by (nat_eq p) listed ≡ (if r == owner then 1 else 0) → Contains listed p → owner ≡ r
  owned p owner e h = elim (cases_Bool (r == owner)) [
    | inl i ↦ sym ((Decides-eqb r owner).0 i)
    | inr i ↦ absurd (counted-contained p listed h (e ∙ ap (λ b. if b then 1 else 0) i))
  ]

  listed_one : (p owner : ℕ) → count_by (nat_eq p) listed ≡ (if r == owner then 1 else 0) → owner ≡ r → Contains listed p
  listed_one p owner e h = contained-counted p 0 listed (e ∙ ap (λ b. if b then 1 else 0) ((Decides-eqb r owner).1 (sym h)))

  pub listed_positions : All (λ p. p < length g.productions) listed → ArePositionsOf (core g) r listed
  listed_positions within = record {
    within = λ k d lt. subst (λ n. get_or listed k d < n) (sym (length-map g.productions production_core)) (within k d lt);
    listed = λ p lt.
        let inside = subst (λ n. p < n) (length-map g.productions production_core) lt in
        let (x, read) = element_at g.productions p inside in
        let e = owner_at p x read inside in
        ((λ h. e ∙ owned p x.rule (often p x read) h), (λ h. listed_one p x.rule (often p x read) (sym e ∙ h)));
  }
