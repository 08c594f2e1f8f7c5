use Rattle.std.proofs.Common.{◌≡◌, ◌++◌, map, drop}
use Rattle.bison_errors.specs.Errors.{fault_error}
use Rattle.bison_errors.proofs.text_errors.push_faults.Given as goal

-- the errors so far, and those of the rest
abbrev pub invariant-loop-fault : goal.invariant-loop-fault
invariant-loop-fault l = l.errors.items ++ map fault_error (drop l.fault-index l.faults) ≡ l.fn.errors.items ++ map fault_error l.faults
