-- The result for a rule's greatest cost, which is read from the table, is returned exactly if it is true, and is `None` exactly if the rule
-- reaches a growing cycle.
use Rattle.std.proofs.Common.{◌≡◌, ◌↔◌, ℕ, ◌<◌, List, Option, None, Result, Ok, Err, get_or, sym, subst, ◌∙◌}
use Rattle.std.proofs.lemmas.List.{get_or_default}
use Rattle.derivation.specs.Grammar.{HasProduction}
use Rattle.derivation.specs.Cycles.{ReachesGrowingCycle}
use Rattle.derivation.specs.declared.errors.CostError.{CostError}
use Rattle.derivation.specs.declared.errors.CostError.TheVariants.{NoSentence}
use Rattle.cfggreatest.specs.GreatestCosts.{AreGreatestCosts, Means}
use Rattle.cfggreatest.proofs.Reporting.{exactly}
use Rattle.cfgleast.specs.Generator.{CostTables, token_cost}

pub answer_at : (x y : CostTables) → x ≡ y → (results : List (Result (Option ℕ) CostError)) → AreGreatestCosts x.grammar (token_cost x) results
    → (r index : ℕ) → index ≡ r → r < y.grammar.rules → (answer : Result (Option ℕ) CostError) → answer ≡ get_or results index answer
    → ((t : Result (Option ℕ) CostError) → (answer ≡ t) ↔ Means (HasProduction y.grammar) (token_cost y) r t)
    × ((answer ≡ Ok None) ↔ ReachesGrowingCycle (HasProduction y.grammar) (token_cost y) r)
answer_at x y same results are r index here within answer at =
    let now = subst (λ (x : CostTables). AreGreatestCosts x.grammar (token_cost x) results) same are in
    let read = subst (λ n. answer ≡ get_or results n answer) here at in
    let one = get_or_default results r (Err NoSentence) answer (subst (λ n. r < n) (sym now.rules) within) ∙ sym read in (
      (λ t. exactly (HasProduction y.grammar) (token_cost y) r answer t (subst (Means (HasProduction y.grammar) (token_cost y) r) one (now.means r within))),
      (subst (λ t. (t ≡ Ok None) ↔ ReachesGrowingCycle (HasProduction y.grammar) (token_cost y) r) one (now.cycles r within)),
    )
