use Rattle.std.proofs.Common.{◌≡◌, ◌+◌, drop}
use Rattle.std.specs.List.{prefix_len}
use Rattle.cfghints.specs.Hints.{continues}
use Rattle.cfghints.proofs.found.continued_len.Given as goal

-- the count so far and the rest of the piece make up the whole piece
abbrev pub invariant-loop-i : goal.invariant-loop-i
invariant-loop-i l = l.i + prefix_len (continues l.first) (drop l.i l.rest) ≡ prefix_len (continues l.first) l.rest
