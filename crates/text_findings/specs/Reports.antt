-- Findings about numbered things, number by number.
use Rattle.std.specs.Prelude.{ℕ, ◌+◌, List, [], ◌∷◌, ◌++◌, Option, None, Some}
use Rattle.text_findings.specs.Finding.{ShownFinding}

-- The findings for the numbers below this one, in order: `Reports n (Some finding)` says that this is the finding for n, and `Reports n None`
-- that there is none.
pub data ReportsBelow (Reports : ℕ → Option ShownFinding → Type 0) : ℕ → List ShownFinding → Type 0 where
  none : ReportsBelow Reports 0 []
  reported : {n : ℕ} {findings : List ShownFinding} {finding : ShownFinding}
      → ReportsBelow Reports n findings → Reports n (Some finding) → ReportsBelow Reports (n + 1) (findings ++ finding ∷ [])
  left : {n : ℕ} {findings : List ShownFinding}
      → ReportsBelow Reports n findings → Reports n None → ReportsBelow Reports (n + 1) findings
