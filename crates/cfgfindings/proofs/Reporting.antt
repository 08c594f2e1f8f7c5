-- The findings below a number, by a predicate that follows from the first one.
use Rattle.std.proofs.Common.{◌≡◌, ℕ, zero, suc, ◌+◌, List, [], Option, None, subst, arith}
use Rattle.cfgfindings.specs.Findings.{ReportsBelow, left, none, reported}
use Rattle.cfgfindings.specs.Shown.{ShownFinding}

pub reports_as : (Reports Other : ℕ → Option ShownFinding → Type 0) → ((n : ℕ) (finding : Option ShownFinding) → Reports n finding → Other n finding)
    → {n : ℕ} {findings : List ShownFinding} → ReportsBelow Reports n findings → ReportsBelow Other n findings
reports_as Reports Other weaker none = none
reports_as Reports Other weaker (reported {n = n} {finding = finding} before here) = reported (reports_as Reports Other weaker before) (weaker n _ here)
reports_as Reports Other weaker (left {n = n} before here) = left (reports_as Reports Other weaker before) (weaker n _ here)

-- nothing is reported of any of them
pub none_below : (Reports : ℕ → Option ShownFinding → Type 0) → ((n : ℕ) → Reports n None) → (count : ℕ) → ReportsBelow Reports count []
none_below Reports each zero = none
none_below Reports each (suc n) = let next : n + 1 ≡ suc n = omega arith in subst (λ m. ReportsBelow Reports m []) next (left (none_below Reports each n) (each n))
