use Rattle.std.proofs.Common.{Some, take}
use Rattle.lr_conflicts.specs.Inner.Searches.{setting}
use Rattle.lr_conflicts.specs.Inner.Ways.{Finds, UnfoldsWith}
use Rattle.lr_conflicts.specs.declared.examples.nodes.Node.TheVariants as nodes
use Rattle.lr_conflicts.proofs.Entering.{Among}
use Rattle.lr_conflicts.proofs.examples.ways.Ways.unfold.Given as goal

-- what the productions so far show is found
abbrev pub invariant-loop-production : goal.invariant-loop-production
invariant-loop-production l = Finds (setting l.self) (Some (nodes.Opened l.at)) (Among
    (UnfoldsWith (setting l.self) l.at.place l.at.rule) (take l.production-index l.production-items)) l.fn.found.entries l.found.entries
