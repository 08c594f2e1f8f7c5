use Rattle.std.proofs.Common.{◌≡◌, []}
use Rattle.cfgcycles.specs.StepLists.{HasStep}
use Rattle.cfgcycles.proofs.Finding.{FindsLayer}
use Rattle.cfgcycles.proofs.shortest.Layers.next.Given as goal

abbrev pub invariant-loop-from : goal.invariant-loop-from
invariant-loop-from l =
    (l.self.steps.now ≡ l.fn.self.steps.now)
    × FindsLayer l.fn.count (HasStep l.fn.self.steps.now) l.fn.layer l.from-index l.fn.self.found.items [] l.self.found.items l.next.items
