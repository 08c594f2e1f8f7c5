use Rattle.std.proofs.Common.{◌≡◌, map, take}
use Rattle.cfglint.specs.ReportedErrors.{noted}
use Rattle.cfglint.proofs.yacc_errors.noted.Given as goal

-- those of the errors so far
abbrev pub invariant-loop-error : goal.invariant-loop-error
invariant-loop-error l = l.reported.items ≡ map (noted l.text l.names) (take l.error-index l.errors)
