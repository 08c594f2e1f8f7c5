use Rattle.std.proofs.Common.{◌≡◌, ◌↔◌, ◌<◌, IsTrue, List, arith, false, get_or, length, subst, sym, ◌∙◌}
use Rattle.std.proofs.lemmas.Bool.Decides.{Decides-eqb}
use Rattle.lr_states.specs.declared.Item.{Item}
use Rattle.lr_conflicts.specs.Conflicts.{CanShift}
use Rattle.lr_conflicts.specs.Inner.Choices.{AreReductions, items_in}
use Rattle.lr_conflicts.proofs.Torn.{listed_row, none_reduced, one_item}
use Rattle.lr_conflicts.proofs.parser.Parser.push_conflicts.Goals as goal

pub returns-then-items-lt2 : goal.returns-then-items-lt2
returns-then-items-lt2 c =
    let x = c.args.self.now in
    listed_row x.grammar.now x.levels.now x.lookaheads.now.automaton c.args.number c.args.conflicts.now.items 0 c.requires.listed
    (λ t low within entered torn. one_item x.grammar.now x.levels.now (items_in x c.args.number) t (subst (λ (l : List Item). length l < 2) c.items.ensures c.if-items-lt2.true) torn)

pub returns-then-is_empty : goal.returns-then-is_empty
returns-then-is_empty c =
    let x = c.args.self.now in
    let rs = c.in_ok-state.state.reductions in
    let are = subst (λ q. AreReductions x.grammar.now x.levels.now (items_in x q) rs.items) c.in_ok-state.ensures.number c.in_ok-state.ensures.state.reductions in
    let zero = (Decides-eqb rs.len 0).0 (sym c.is_empty.ensures ∙ c.if-is_empty.true) in
    let none : length rs.items ≡ 0 = omega (arith, zero, rs.ok) in
    listed_row x.grammar.now x.levels.now x.lookaheads.now.automaton c.args.number c.args.conflicts.now.items 0 c.requires.listed
    (λ t low within entered torn. none_reduced x.grammar.now x.levels.now (items_in x c.args.number) t rs.items are none torn)

pub turn-turn-requires-clause-shifts : goal.turn-turn-requires-clause-shifts
turn-turn-requires-clause-shifts c =
    let x = c.args.self.now in
    let t = c.loop-token.token in
    subst (λ q. IsTrue (get_or c.in_ok-shifts.shifts t false) ↔ CanShift x.grammar.now x.levels.now (items_in x q) t) (sym c.in_ok-state.ensures.number)
    (c.in_ok-shifts.ensures t (omega (arith, c.loop-token-test.true, c.from-token-end.ensures, c.tokens_len.ensures)))

pub returns : goal.returns
returns c =
    let x = c.args.self.now in
    listed_row x.grammar.now x.levels.now x.lookaheads.now.automaton c.args.number c.loop-token.conflicts.items c.loop-token.token c.loop-token.invariant
    (λ t low within entered torn. omega (arith, low, within, c.loop-token-test.false, c.from-token-end.ensures, c.tokens_len.ensures))
