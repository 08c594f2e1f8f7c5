-- Where there is no finding, nothing is reported.
use Rattle.std.proofs.Common.{◌+◌, ℕ, [], None, zero, suc, add-one}
use Rattle.text_findings.specs.Finding.{ShownFinding}
use Rattle.text_findings.specs.Reports.{ReportsBelow, none, left}
use Rattle.std.specs.Prelude.{Option}

pub none_below : (Reports : ℕ → Option ShownFinding → Type 0) → ((n : ℕ) → Reports n None) → (n : ℕ) → ReportsBelow Reports n []
none_below Reports empty zero = none
none_below Reports empty (suc n) = let last : ReportsBelow Reports (n + 1) [] = left (none_below Reports empty n) (empty n) in rw add-one at last
