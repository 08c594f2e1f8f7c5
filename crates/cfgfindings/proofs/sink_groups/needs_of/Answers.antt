use Rattle.std.proofs.Common.{◌≡◌, length, arith, ap, subst}
use Rattle.cfgrammar.specs.Numbered.{Numbered}
use Rattle.cfgfindings.specs.Inner.SinkGroups.{AreNeedsBelow}
use Rattle.cfgfindings.proofs.Needs.{all_needs, one_more_production}
use Rattle.cfgfindings.proofs.sink_groups.needs_of.Goals as goal

pub loop-production-preserved : goal.loop-production-preserved
loop-production-preserved c =
    let g = c.args.unproductive.now in
    one_more_production g (length g.rules) c.loop-production.production c.loop-production.needs c.push_needs.new.needs c.loop-production.invariant c.in_ok-push_needs.ensures

pub returns : goal.returns
returns c =
    let g = c.args.unproductive.now in
    let seen = ap (λ (n : Numbered). length n.productions) c.grammar.ensures in
    let all : c.loop-production.production ≡ length g.productions =
    omega (arith, c.loop-production-test.false, c.loop-production.auto.production-end, c.from-production-end.ensures, c.prods_len.ensures, seen) in
    all_needs g c.loop-production.needs (subst (λ n. AreNeedsBelow g (length g.rules) n c.loop-production.needs) all c.loop-production.invariant)
