use Rattle.std.proofs.Common.{◌≡◌}
use Rattle.cfgcycles.proofs.Finding.{FindsPrefix}
use Rattle.cfgcycles.proofs.shortest.Layers.note_steps.Given as goal

abbrev pub invariant-loop-step : goal.invariant-loop-step
invariant-loop-step l =
    (l.self.steps.now ≡ l.fn.self.steps.now)
    × FindsPrefix l.fn.count l.fn.from l.step-items l.step-index l.fn.self.found.items l.fn.next.items l.self.found.items l.next.items
