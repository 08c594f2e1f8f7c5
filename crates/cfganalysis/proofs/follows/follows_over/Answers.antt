use Rattle.std.proofs.Common.{subst, sym}
use Rattle.cfganalysis.specs.Follows.{AreFollows}
use Rattle.cfganalysis.proofs.follows.follows_over.Goals as goal

pub returns-clause-follows : goal.returns-clause-follows
returns-clause-follows g c = subst (AreFollows (g.P.Productions.content c.args.productions.now)) (sym c.in_ok-from_words.ensures) c.in_ok-follows.ensures.follows
