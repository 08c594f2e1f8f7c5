use Rattle.std.proofs.Common.{[], Contains, ap, get_or, subst, ◌∙◌}
use Rattle.std.proofs.lemmas.List.Elements.{Contains-get_or}
use Rattle.lr_states.specs.Automaton.{Automaton}
use Rattle.lr_states.specs.Viable.{item_at}
use Rattle.lr_states.specs.Lookaheads.{LookaheadTables}
use Rattle.bison_findings.proofs.states.write_actions.Goals as goal

pub write_action-requires-clause-within : goal.write_action-requires-clause-within
write_action-requires-clause-within c =
    let items = c.items-items.ensures
    ∙ ap (λ (a : Automaton). get_or a.states c.args.state []) (c.states.ensures ∙ ap (λ (l : LookaheadTables). l.automaton) c.lookaheads.ensures) in
    let item = get_or c.items-items.result.now c.loop-item.item-index (item_at 0 0) in
    c.requires.within.items c.args.state c.requires.state item
    (subst (λ l. Contains l item) items (Contains-get_or c.items-items.result.now c.loop-item.item-index (item_at 0 0) c.loop-item-test.true))
