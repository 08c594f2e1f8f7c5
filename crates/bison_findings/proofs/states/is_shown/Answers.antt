use Rattle.std.proofs.Common.{nat_eq, nat_lt, sym, ap, ◌∙◌}
use Rattle.std.proofs.lemmas.Bool.{lt-ltb, or_left, or_right}
use Rattle.bison_findings.proofs.states.is_shown.Goals as goal
use Rattle.bison_findings.proofs.states.is_shown.Goals.{then-item-gt0, else-item-gt0}

pub returns-then-item-from : goal.returns-then-item-from
returns-then-item-from c =
    let item = c.args.item in
    let starts = nat_eq item.production c.args.grammar.now.start_production in
    c.if-item-from.true ∙ sym (elim c.if-item-gt0.branch [
      | then-item-gt0 w ↦ or_left (nat_lt 0 item.read) _ (lt-ltb 0 item.read w.if-item-gt0.true)
      | else-item-gt0 w ↦ or_right (nat_lt 0 item.read) _ (or_left starts _ (sym (w.value-is ∙ ap (nat_eq item.production) (w.from.ensures ∙ w.start_prod.ensures.value)) ∙ c.if-item-from.true))
    ])
