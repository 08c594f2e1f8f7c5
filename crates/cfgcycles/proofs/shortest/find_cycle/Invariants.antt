use Rattle.cfgcycles.proofs.Ending.{Searching, left_to_do}
use Rattle.cfgcycles.proofs.shortest.find_cycle.Given as goal

abbrev pub invariant-loop-layers : goal.invariant-loop-layers
invariant-loop-layers l = Searching l.fn.layers.steps.now l.fn.rule l.count l.layers.steps.now l.layers.found.items l.layer.items

abbrev pub decreases-loop-layers : goal.decreases-loop-layers
decreases-loop-layers l = left_to_do l.layers.found.items l.layer.items
