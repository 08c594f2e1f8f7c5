use Rattle.std.proofs.Common.{take, All}
use Rattle.cfgleast.specs.Certificate.{IsCoveredInRange}
use Rattle.cfgcertificate.proofs.certificate.check_least.Given as goal

abbrev pub invariant-loop-number : goal.invariant-loop-number
invariant-loop-number g l = All (IsCoveredInRange l.costs l.least) (take l.number (g.T.Tables.grammar l.grm).productions)
