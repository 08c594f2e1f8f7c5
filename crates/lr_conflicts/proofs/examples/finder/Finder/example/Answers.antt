use Rattle.std.proofs.Common.{None, Some, subst}
use Rattle.lr_conflicts.specs.Conflicts.{read_item}
use Rattle.lr_conflicts.specs.Inner.Finders.{FindsOnStates, FindsOther}
use Rattle.lr_conflicts.proofs.Assembled.{example_shown, none_other, none_reduced, states_shown}
use Rattle.lr_conflicts.proofs.examples.finder.Finder.example.Goals as goal

pub returns-in_default : goal.returns-in_default
returns-in_default c = λ known has.
    let x = c.args.self.now in
    let item = read_item x.grammar.now c.args.clash.production in
    none_reduced x c.invariant_holds.ensures.whole known c.args.clash has
    (subst (FindsOnStates x item) c.in_default.is (subst (λ i. FindsOnStates x i c.in_ok-reduced.field-0) c.read_item-item.ensures c.in_ok-reduced.ensures))

pub returns-in-Some-2 : goal.returns-in-Some-2
returns-in-Some-2 c = λ known has.
    let x = c.args.self.now in
    let item = read_item x.grammar.now c.args.clash.production in
    example_shown x c.invariant_holds.ensures.whole known c.args.clash has (record { reduced = c.in-Some.reduced; other = c.in-Some-2.other })
    (subst (FindsOnStates x item) c.in-Some.is (subst (λ i. FindsOnStates x i c.in_ok-reduced.field-0) c.read_item-item.ensures c.in_ok-reduced.ensures))
    (subst (λ l. FindsOther x c.args.clash l (Some c.in-Some-2.other)) c.deref.ensures.value
    (subst (FindsOther x c.args.clash c.deref.result.now) c.in-Some-2.is c.in_ok-other.ensures))

pub returns-in-None : goal.returns-in-None
returns-in-None c = λ known has.
    let x = c.args.self.now in
    let item = read_item x.grammar.now c.args.clash.production in
    let whole = c.invariant_holds.ensures.whole in
    let reduced = subst (FindsOnStates x item) c.in-Some.is (subst (λ i. FindsOnStates x i c.in_ok-reduced.field-0) c.read_item-item.ensures c.in_ok-reduced.ensures) in
    none_other x whole known c.args.clash has c.in-Some.reduced.prefix.items (states_shown x whole known c.args.clash has item c.in-Some.reduced reduced).leads
    (subst (λ l. FindsOther x c.args.clash l None) c.deref.ensures.value (subst (FindsOther x c.args.clash c.deref.result.now) c.in-None.is c.in_ok-other.ensures))
