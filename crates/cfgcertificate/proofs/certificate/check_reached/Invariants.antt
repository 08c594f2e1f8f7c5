use Rattle.std.proofs.Common.{ℕ, ◌<◌, map}
use Rattle.cfgleast.specs.Certificate.{IsReached, choice_of}
use Rattle.cfgcertificate.proofs.certificate.check_reached.Given as goal

abbrev pub invariant-loop-rule : goal.invariant-loop-rule
invariant-loop-rule g l = (r : ℕ) → r < l.rule → IsReached (g.T.Tables.grammar l.grm) l.costs l.least (map (choice_of g.S.Storage.number) l.choices) r
