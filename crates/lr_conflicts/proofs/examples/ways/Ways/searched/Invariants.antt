use Rattle.lr_conflicts.specs.Inner.Searches.{setting}
use Rattle.lr_conflicts.proofs.Explored.{IsPartly}
use Rattle.lr_conflicts.proofs.examples.ways.Ways.searched.Given as goal

-- what the nodes so far lead to is found
abbrev pub invariant-loop-number : goal.invariant-loop-number
invariant-loop-number l = IsPartly (setting l.self) l.number l.found.entries
