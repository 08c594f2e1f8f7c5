use Rattle.cfgcosts.proofs.targets.last_targets.Goals as goal

pub go_on-requires : goal.go_on-requires
go_on-requires g c = (g.T.Tables.grammar c.args.tables.now, c.args.kinds.now, c.loop-turn.invariant)
