use Rattle.std.proofs.Common.{[], Contains, ap, get_or, subst, ◌∙◌}
use Rattle.lr_states.specs.Automaton.{Automaton}
use Rattle.lr_states.specs.Lookaheads.{LookaheadTables}
use Rattle.bison_findings.proofs.states.write_state.Goals as goal

pub write_items-requires : goal.write_items-requires
write_items-requires c = λ item h.
    let automaton = c.states-states.ensures ∙ ap (λ (l : LookaheadTables). l.automaton) c.lookaheads.ensures in
    c.requires.within.items c.args.state c.requires.state item
    (subst (λ l. Contains l item) (c.items.ensures ∙ ap (λ (a : Automaton). get_or a.states c.args.state []) automaton) h)

pub write_targets-requires : goal.write_targets-requires
write_targets-requires c = λ target h.
    let automaton = c.states-states.ensures ∙ ap (λ (l : LookaheadTables). l.automaton) c.lookaheads.ensures in
    c.requires.within.targets c.args.state c.requires.state target
    (subst (λ l. Contains l target) (c.targets.ensures ∙ ap (λ (a : Automaton). get_or a.targets c.args.state []) automaton) h)
