use Rattle.cfgcycles.proofs.Ending.{ReadOff}
use Rattle.cfgcycles.proofs.shortest.Layers.cycle_of.Given as goal

abbrev pub invariant-loop-found : goal.invariant-loop-found
invariant-loop-found l = ReadOff l.fn.self.steps.now l.fn.self.found.items l.fn.rule l.initial.found l.found l.path.items

abbrev pub decreases-loop-found : goal.decreases-loop-found
decreases-loop-found l = l.found.length
