use Rattle.std.proofs.Common.{All, take}
use Rattle.bison_findings.specs.Conflicts.{IsLike}
use Rattle.bison_findings.proofs.grouped.count_like.Given as goal

-- the clashes so far are like the first
abbrev pub invariant-loop-index : goal.invariant-loop-index
invariant-loop-index l = All (IsLike l.first) (take l.index l.clashes)
