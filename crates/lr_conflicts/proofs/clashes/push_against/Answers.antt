use Rattle.std.proofs.Common.{get_or, subst}
use Rattle.std.proofs.lemmas.List.{get_or_default, take_all}
use Rattle.lr_conflicts.specs.Inner.Pushed.{AddsClashes, IsAgainst}
use Rattle.lr_conflicts.proofs.Pushed.{against_more}
use Rattle.lr_conflicts.proofs.clashes.push_against.Goals as goal

pub loop-production-preserved : goal.loop-production-preserved
loop-production-preserved c =
    let productions = c.args.productions.now in
    let i = c.loop-production.production-index in
    let p = get_or productions i 0 in
    against_more c.args.shifts c.args.other productions c.args.token i p c.loop-production-test.true (get_or_default productions i 0 p c.loop-production-test.true)
    c.args.entries.now.items c.loop-production.entries.items c.push.new.self.items c.loop-production.invariant c.in_ok-push.ensures.items

pub returns : goal.returns
returns c = subst (λ l. AddsClashes (IsAgainst c.args.shifts c.args.other l c.args.token) c.args.entries.now.items c.loop-production.entries.items)
    (take_all c.loop-production.production-index c.args.productions.now c.loop-production-test.false) c.loop-production.invariant
