use Rattle.std.proofs.Common.{◌≡◌, drop}
use Rattle.bison_errors.specs.Errors.{first_empty}
use Rattle.bison_errors.proofs.text_errors.first_empty.Given as goal

abbrev pub invariant-loop-part : goal.invariant-loop-part
invariant-loop-part l =
    first_empty l.parts ≡ first_empty (drop l.part-index l.parts)
