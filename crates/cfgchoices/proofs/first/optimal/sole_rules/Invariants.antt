use Rattle.cfgchoices.proofs.SoleRules.{SoleSoFar}
use Rattle.cfgchoices.proofs.first.optimal.sole_rules.Given as goal

abbrev pub invariant-loop-number : goal.invariant-loop-number
invariant-loop-number g l = SoleSoFar l.kinds (g.T.Tables.grammar l.tables) l.number l.sole.items l.seen.items
