-- Lists of productions, built by prepending productions from the last one down.
use Rattle.std.proofs.Common.{◌≡◌, ℕ, ◌+◌, ◌<◌, ◌≤◌, ◌⊎◌, inl, inr, List, get_or, length, replicate, slice_set, Option, Some, None, arith, sym, ap, subst, ◌∙◌}
use Rattle.std.proofs.lemmas.Option.{same_Some}
use Rattle.std.proofs.lemmas.Bool.{cases_eq, cases_lt}
use Rattle.std.proofs.lemmas.List.{get_or_default, get_or-set_same, get_or-set_other}
use Rattle.lemmas.proofs.Elements.{get_or-replicate_default}
use Rattle.cfgindex.specs.declared.idxnewtype.PIdx.{PIdx}
use Rattle.derivation.specs.CostLists.{rule_cost}
use Rattle.cfgleast.specs.Generator.{CostTables, IsGenerator}
use Rattle.cfgleast.proofs.Generated.{answered_some}
use Rattle.cfgchoices.specs.Kinds.{IsBase}
use Rattle.cfgchoices.specs.Inner.Candidates.{owner}
use Rattle.cfgchoices.proofs.Optimal.{answered_within}
use Rattle.cfgchoices.specs.Inner.Lists.{AreListed, IsFirstFrom}

module _ {S : Type 0} (number : S → ℕ) (Is : ℕ → ℕ → Type 0) (n : ℕ) (firsts next : List (Option (PIdx S))) (listed : AreListed number Is (n + 1) firsts next) where
  at_or_after : (p : ℕ) → n ≤ p → (n + 1 ≤ p) ⊎ (p ≡ n)
  at_or_after p le = elim (cases_lt n p) [ inl lt ↦ inl (omega (arith, lt)) | inr ge ↦ inr (omega (arith, le, ge)) ]

  -- a list without n
  wider : (k : ℕ) → (Is k n → ⊥) → (o : Option (PIdx S)) → IsFirstFrom number (Is k) (n + 1) o → IsFirstFrom number (Is k) n o
  wider k not None none = λ p le i. elim (at_or_after p le) [ inl after ↦ none p after i | inr same ↦ not (subst (Is k) same i) ]
  wider k not (Some p) (from, is, first) = (
    omega (arith, from),
    is,
    (λ q le lt i. elim (at_or_after q le) [ inl after ↦ first q after lt i | inr same ↦ not (subst (Is k) same i) ]),
  )

  pub listed_nowhere : ((k : ℕ) → Is k n → ⊥) → AreListed number Is n firsts next
  listed_nowhere not = record {
    first = λ k. wider k (not k) (get_or firsts k None) (listed.first k);
    after = λ k p le i. elim (at_or_after p le) [ inl after ↦ listed.after k p after i | inr same ↦ absurd (not k (subst (Is k) same i)) ];
  }

  module _ (i : ℕ) (at : i ≡ n) (o : Option (PIdx S)) where
    kept : (p : ℕ) → n + 1 ≤ p → get_or (slice_set next i o) p None ≡ get_or next p None
    kept p after = get_or-set_other next i p o None (λ e. omega (arith, after, e, at))

    -- n is put into another list
    pub listed_elsewhere : ((k : ℕ) → Is k n → ⊥) → AreListed number Is n firsts (slice_set next i o)
    listed_elsewhere not = record {
      first = λ k. wider k (not k) (get_or firsts k None) (listed.first k);
      after = λ k p le h. elim (at_or_after p le) [
        | inl after ↦ subst (IsFirstFrom number (Is k) (p + 1)) (sym (kept p after)) (listed.after k p after h)
        | inr same ↦ absurd (not k (subst (Is k) same h))
      ];
    }

    -- n becomes the first of list k, which is read and written at these indices
    pub listed_first : (k j m : ℕ) (p : PIdx S) → number p.0 ≡ n → Is k n → ((l : ℕ) → Is l n → l ≡ k) → k < length firsts → n < length next → j ≡ k → m ≡ k → o ≡ get_or firsts j o
        → AreListed number Is n (slice_set firsts m (Some p)) (slice_set next i o)
    listed_first k j m p here is only within there read written old = subst (λ m. AreListed number Is n (slice_set firsts m (Some p)) (slice_set next i o)) (sym written) (record {
      first = λ l. elim (cases_eq l k) [
        | inl e ↦ subst (λ i. IsFirstFrom number (Is i) n (get_or (slice_set firsts k (Some p)) i None)) (sym e)
            (subst (IsFirstFrom number (Is k) n) (sym (get_or-set_same firsts k (Some p) None within))
            (omega (arith, here), subst (Is k) (sym here) is, λ q le lt i. absurd (omega (arith, le, lt, here))))
        | inr other ↦ subst (IsFirstFrom number (Is l) n) (sym (get_or-set_other firsts k l (Some p) None other))
            (wider l (λ i. other (only l i)) (get_or firsts l None) (listed.first l))
      ];
      after = λ l q le h. elim (at_or_after q le) [
        | inl after ↦ subst (IsFirstFrom number (Is l) (q + 1)) (sym (kept q after)) (listed.after l q after h)
        | inr same ↦ subst (λ m. IsFirstFrom number (Is l) (m + 1) (get_or (slice_set next i o) m None)) (sym same)
            (subst (IsFirstFrom number (Is l) (n + 1)) (sym now)
            (subst (λ m. IsFirstFrom number (Is m) (n + 1) (get_or firsts k None)) (sym (only l (subst (Is l) same h))) (listed.first k)))
      ];
    })
      where
        now : get_or (slice_set next i o) n None ≡ get_or firsts k None
        now = ap (λ m. get_or (slice_set next m o) n None) at ∙ get_or-set_same next n o None there ∙ old ∙ ap (λ m. get_or firsts m o) read ∙ get_or_default firsts k o None within

-- nothing is listed yet
pub listed_none : {S : Type 0} (number : S → ℕ) (Is : ℕ → ℕ → Type 0) (n lists : ℕ) (firsts next : List (Option (PIdx S))) → ((k p : ℕ) → Is k p → p < n)
    → firsts ≡ replicate lists None → AreListed number Is n firsts next
listed_none number Is n lists firsts next below none = record {
  first = λ k. subst (IsFirstFrom number (Is k) n) (sym (ap (λ l. get_or l k None) none ∙ get_or-replicate_default lists k None)) (λ p le h. let lt = below k p h in omega (arith, le, lt));
  after = λ k p le h. let lt = below k p h in absurd (omega (arith, le, lt));
}

-- what a base production costs, as the list of the code says
pub base_cost_reported : (x : CostTables) (n : ℕ) → IsGenerator x n → (p i c : ℕ) (base : IsBase x p) (o : Option ℕ) → i ≡ owner x p → o ≡ get_or x.least i o → o ≡ Some c → base.optimal.cost ≡ c
base_cost_reported x n is p i c base o at read some =
    let within = subst (λ m. owner x p < m) (sym is.settled.chosen.costs) (answered_within x n is (owner x p) base.optimal.cost base.optimal.rule) in
    same_Some _ _ (sym (answered_some (rule_cost x.least (owner x p)) base.optimal.cost base.optimal.rule).0
    ∙ sym (read ∙ ap (λ n. get_or x.least n o) at ∙ get_or_default x.least (owner x p) o None within) ∙ some)
