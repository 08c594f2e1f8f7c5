use Rattle.std.proofs.Common.{◌≡◌, take}
use Rattle.lr_states.specs.Viable.{item_at}
use Rattle.lr_conflicts.specs.Inner.Searches.{setting}
use Rattle.lr_conflicts.specs.Inner.Ways.{Finds, item_node, parent_of}
use Rattle.lr_conflicts.proofs.Entering.{Among}
use Rattle.lr_conflicts.proofs.examples.ways.Ways.enter.Given as goal

-- the productions so far are found
abbrev pub invariant-loop-production : goal.invariant-loop-production
invariant-loop-production l = Finds (setting l.self) (parent_of l.step) (Among
    (λ p n. (setting l.self).Used p × (n ≡ item_node l.place (item_at p 0) l.followed)) (take l.production-index l.production-items)) l.fn.found.entries l.found.entries
