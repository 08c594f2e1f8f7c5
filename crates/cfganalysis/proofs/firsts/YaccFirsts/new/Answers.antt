use Rattle.std.proofs.Common.{IfOk, subst}
use Rattle.cfgtables.specs.Openings.{Counts}
use Rattle.cfganalysis.specs.Firsts.{AreFirsts}
use Rattle.cfganalysis.proofs.firsts.YaccFirsts.new.Goals as goal

pub returns : goal.returns
returns g c = subst (λ (x : Counts). IfOk c.firsts_over.result (AreFirsts x.grammar)) c.in_ok-productions.ensures c.firsts_over.ensures.firsts
