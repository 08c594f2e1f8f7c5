use Rattle.cfgcosts.specs.Inner.Targets.{AreTargets, rules_of}
use Rattle.cfgcosts.proofs.targets.last_targets.Given as goal

abbrev pub invariant-loop-turn : goal.invariant-loop-turn
invariant-loop-turn g l = AreTargets g.S.Storage.number (g.T.Tables.grammar l.tables) l.kinds (rules_of g.S.Storage.number l.targets.items)
