-- How often a production is among opened ones, and what counts them.
use Rattle.std.proofs.Common.{◌≡◌, ◌≢◌, ℕ, ◌+◌, ◌<◌, inl, inr, List, [], ◌∷◌, ◌++◌, cond, length, nat_eq, arith, refl, sym, ap, subst, ◌∙◌}
use Rattle.std.proofs.lemmas.Bool.{eq-eqb, ne_eqb}
use Rattle.std.proofs.lemmas.Bool.Decides.{eqb_tells}
use Rattle.std.proofs.lemmas.List.{length-append}
use Rattle.std.proofs.lemmas.List.Sums.{sum_by_push}
use Rattle.derivation.specs.Grammar.{Grammar}
use Rattle.cfgtables.specs.Openings.{OpensOne}
use Rattle.cfgcosts.specs.DerivedBy.{times}
use Rattle.cfgcosts.specs.Inner.Walk.{AreCountsOf}

times_more : (p : ℕ) (positions : List ℕ) → times p (positions ++ p ∷ []) ≡ times p positions + 1
times_more p positions = sum_by_push (λ q. cond (nat_eq p q) 1 0) positions p ∙ ap (λ b. times p positions + cond b 1 0) (eq-eqb p p refl)

pub times_other : (q : ℕ) (positions : List ℕ) (p : ℕ) → q ≢ p → times q (positions ++ p ∷ []) ≡ times q positions
times_other q positions p other = sum_by_push (λ i. cond (nat_eq q i) 1 0) positions p ∙ ap (λ b. times q positions + cond b 1 0) (ne_eqb q p other) ∙ omega arith

-- one more opening is counted
pub counts_more : (g content : Grammar) (p : ℕ) (opened opened' : ℕ → ℕ) (all all' : ℕ) (positions : List ℕ) → OpensOne p g content opened opened' all all'
    → AreCountsOf g opened all positions → AreCountsOf content opened' all' (positions ++ p ∷ [])
counts_more g content p opened opened' all all' positions o counts = subst (λ h. AreCountsOf h opened' all' (positions ++ p ∷ [])) (sym o.stays) (record {
  each = λ q within. elim (eqb_tells q p) [
    | inl h ↦ subst (λ i. opened' i ≡ times i (positions ++ p ∷ [])) (sym h.1)
        (o.more ∙ ap (λ n. n + 1) (counts.each p (subst (λ i. i < length g.productions) h.1 within)) ∙ sym (times_more p positions))
    | inr h ↦ o.others q h.1 ∙ counts.each q within ∙ sym (times_other q positions p h.1)
  ];
  together = let longer = length-append positions (p ∷ []) in omega (arith, o.together, counts.together, longer);
})
