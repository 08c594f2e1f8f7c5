use Rattle.std.proofs.Common.{◌≡◌, map, take}
use Rattle.cfglint.specs.BisonNotes.{noted_bison}
use Rattle.cfglint.proofs.reported_bison.noted.Given as goal

-- those of the errors so far
abbrev pub invariant-loop-error : goal.invariant-loop-error
invariant-loop-error l = l.reported.items ≡ map (noted_bison l.text l.names) (take l.error-index l.errors)
