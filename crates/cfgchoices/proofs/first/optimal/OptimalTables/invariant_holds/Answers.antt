use Rattle.std.proofs.Common.{subst}
use Rattle.cfgchoices.specs.Inner.Candidates.{IsKnown, Known}
use Rattle.cfgchoices.proofs.first.optimal.OptimalTables.invariant_holds.Goals as goal

pub returns : goal.returns
returns g c = (c.self.inside.settled.now.number, subst (λ (k : Known). IsKnown k c.self.inside.settled.now.number) c.self.view_is c.self.invariant.0)
