use Rattle.std.proofs.Common.{◌++◌, subst, sym}
use Rattle.cfglines.specs.Lines.{StandsFor}
use Rattle.cfglines.proofs.Newlines.{StandsFor-append}
use Rattle.cfglines.proofs.newlinecache.NewlineCache.feed.Goals as goal

pub invariant_of-self-2 : goal.invariant_of-self-2
invariant_of-self-2 c = (
  c.self.invariant.0 ++ c.args.text.now,
  StandsFor-append _ _ _ _ _ c.self.invariant.1 c.in-Some.ensures.1 c.in_ok-add_newlines.ensures.ok,
)

pub returns-clause-ok : goal.returns-clause-ok
returns-clause-ok c before holds =
    let inside = subst (λ kept. StandsFor kept before) (sym c.self.view_is) holds in
    StandsFor-append _ _ _ _ _ inside c.in-Some.ensures.1 c.in_ok-add_newlines.ensures.ok
