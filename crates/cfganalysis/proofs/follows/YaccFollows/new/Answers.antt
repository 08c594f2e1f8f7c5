use Rattle.std.proofs.Common.{IfOk, subst}
use Rattle.cfgtables.specs.Openings.{Counts}
use Rattle.cfganalysis.specs.Follows.{AreFollows}
use Rattle.cfganalysis.proofs.follows.YaccFollows.new.Goals as goal

pub returns : goal.returns
returns g c = subst (λ (x : Counts). IfOk c.follows_over.result (AreFollows x.grammar)) c.in_ok-productions.ensures c.follows_over.ensures.follows
