use Rattle.lr_conflicts.proofs.examples.ways.Ways.enter_last.Goals as goal

pub enter-requires-clause-next : goal.enter-requires-clause-next
enter-requires-clause-next c = λ prefix after h. (c.requires.opened c.if-nullable.true prefix after h, (λ yes. h.1 c.if-at.true))
