use Rattle.std.proofs.Common.{Contains, subst, sym, ◌∙◌, true≢false}
use Rattle.lr_conflicts.specs.Conflicts.{items_of}
use Rattle.lr_conflicts.proofs.Pushed.{is_token}
use Rattle.lr_conflicts.proofs.InConflicts.{items_contain, numbers_contain, shifted_by, shifts_by}
use Rattle.lr_conflicts.proofs.examples.clashing.is_shift_in.Goals as goal
use Rattle.lr_conflicts.proofs.examples.clashing.is_shift_in.Goals.{else-conflict, else-contains, then-conflict, then-contains}

pub returns-then-contains-2 : goal.returns-then-contains-2
returns-then-contains-2 c =
    let g = c.args.grammar.now in
    let x = c.args.states.now in
    let conflict = c.args.conflict.now in
    let clash = c.args.clash in
    let is = is_token c.shifted_token.result conflict.token in
    let by = c.shifted_token.ensures.is conflict.token in
    elim c.if-contains.branch [
      | then-contains w ↦ elim c.if-conflict.branch [
        | then-conflict v ↦
            let among : Contains conflict.productions.items clash.production = subst (λ l. Contains l clash.production) v.deref.ensures.value
            ((numbers_contain v.deref.result.now clash.production v.contains.result v.contains.ensures.cases).0 (sym v.value-is ∙ w.if-contains.true)) in
            let there : Contains (items_of x conflict.state) clash.other = subst (λ l. Contains l clash.other) w.items_of.ensures
            ((items_contain w.items_of.result.now clash.other w.contains-then-contains.result w.contains-then-contains.ensures.cases).0 (sym w.value-is ∙ c.if-contains-2.true)) in (
              (λ same. record {
                shifts = v.if-conflict.true;
                production = among;
                other = shifts_by g x conflict clash.other there (by.0 (is.0 (sym c.eq.ensures ∙ same)));
              }),
              (λ s. c.eq.ensures ∙ is.1 (by.1 (shifted_by g x conflict clash.other s.other).1)),
            )
        | else-conflict v ↦ absurd (true≢false (sym w.if-contains.true ∙ v.value-is ∙ v.if-conflict.false))
      ]
      | else-contains w ↦ absurd (true≢false (sym c.if-contains-2.true ∙ w.value-is ∙ w.if-contains.false))
    ]
