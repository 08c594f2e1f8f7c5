use Rattle.std.proofs.Common.{◌+◌, Global, Vec, ap, arith, length, subst, sym, ◌∙◌, true≢false}
use Rattle.lr_states.specs.Automaton.{Automaton}
use Rattle.lr_conflicts.specs.Inner.Listed.{AreListed}
use Rattle.lr_conflicts.specs.declared.Conflict.{Conflict}
use Rattle.lr_conflicts.proofs.Torn.{listed_all, listed_row}
use Rattle.lr_conflicts.proofs.parser.Parser.conflicts.Goals as goal
use Rattle.lr_conflicts.proofs.parser.Parser.conflicts.Goals.{then-is_reachable+in_ok-push_conflicts, else-is_reachable}

pub loop-number-preserved : goal.loop-number-preserved
loop-number-preserved c =
    let x = c.args.self.now in
    let q = c.loop-number.number in
    let a = x.lookaheads.now.automaton in
    elim c.if-is_reachable.branch [
      | then-is_reachable+in_ok-push_conflicts w ↦ subst (λ (v : Vec Conflict Global). AreListed x.grammar.now x.levels.now a (q + 1) 0 v.items) (sym w.conflicts-is)
          w.in_ok-push_conflicts.ensures
      | else-is_reachable w ↦ subst (λ (v : Vec Conflict Global). AreListed x.grammar.now x.levels.now a (q + 1) 0 v.items) (sym w.conflicts-is)
          (listed_row x.grammar.now x.levels.now a q c.loop-number.conflicts.items 0 c.loop-number.invariant
          (λ t low within entered torn. true≢false (sym ((c.in_ok-entered.ensures q).1 entered) ∙ sym c.is_reachable.ensures ∙ w.if-is_reachable.false)))
    ]

pub returns : goal.returns
returns c =
    let x = c.args.self.now in
    let count = c.len-number-end.ensures ∙ ap (λ (a : Automaton). length a.states) c.states.ensures in
    listed_all x.grammar.now x.levels.now x.lookaheads.now.automaton c.loop-number.number c.loop-number.conflicts.items c.loop-number.invariant
    (omega (arith, count, c.loop-number-test.false))
