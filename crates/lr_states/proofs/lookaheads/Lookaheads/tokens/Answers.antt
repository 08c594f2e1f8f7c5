use Rattle.std.proofs.Common.{◌<◌, ℕ, [], Contains, ap, arith, get_or, length, refl, subst, sym, true≢false, ◌∙◌}
use Rattle.lr_states.specs.declared.Item.{Item}
use Rattle.lr_states.specs.Lookaheads.{LookaheadTables, tokens_of}
use Rattle.lr_states.specs.Inner.Numbers.{numbers_of}
use Rattle.lr_states.proofs.Ready.{item_low}
use Rattle.lr_states.proofs.Whole.{tokens_at}
use Rattle.lr_states.proofs.lookaheads.Lookaheads.tokens.Goals as goal

pub has_item-requires : goal.has_item-requires
has_item-requires c = let (ready, long) = c.self.invariant in let (g, r) = ready in r.states.sorted

pub row-requires : goal.row-requires
row-requires c =
    let (ready, long) = c.self.invariant in
    let (g, r) = ready in
    let (state, item) = c.has_item.ensures.0 c.if-has_item.true in
    let low = item_low g c.self.inside.states (numbers_of c.self.inside.nodes) r c.args.state state c.args.item item in
    omega (arith, low, c.of_item-node.ensures, long)

pub returns-then-has_item-clause-some : goal.returns-then-has_item-clause-some
returns-then-has_item-clause-some c =
    let (ready, long) = c.self.invariant in
    let (g, r) = ready in
    let (state, item) = c.has_item.ensures.0 c.if-has_item.true in
    c.row.ensures ∙ ap (λ m. get_or c.self.inside.reached m []) c.of_item-node.ensures
    ∙ sym (tokens_at c.self.inside.states (numbers_of c.self.inside.nodes) c.self.inside.reached c.args.state state (r.states.sorted c.args.state state)
    c.args.item item)
    ∙ ap (λ v. tokens_of v c.args.state c.args.item) c.self.view_is

abbrev HasItem : LookaheadTables → ℕ → Item → Type 0
HasItem x q item = (q < length x.automaton.states) × Contains (get_or x.automaton.states q []) item

pub returns-then-has_item-clause-none : goal.returns-then-has_item-clause-none
returns-then-has_item-clause-none c = (
  (λ e. absurd (cc)),
  (λ no. absurd (no (subst (λ v. HasItem v c.args.state c.args.item) c.self.view_is (c.has_item.ensures.0 c.if-has_item.true)))),
)

pub returns-else-has_item-clause-none : goal.returns-else-has_item-clause-none
returns-else-has_item-clause-none c = (
  (λ e has. true≢false (sym (c.has_item.ensures.1 (subst (λ v. HasItem v c.args.state c.args.item) (sym c.self.view_is) has)) ∙ c.if-has_item.false)),
  (λ no. refl),
)
