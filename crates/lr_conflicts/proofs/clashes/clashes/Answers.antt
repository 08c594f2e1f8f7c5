use Rattle.std.proofs.Common.{[], subst, ◌∙◌, ap, map}
use Rattle.std.proofs.lemmas.List.{take_all}
use Rattle.std.proofs.lemmas.List.Filters.{dedup_is}
use Rattle.std.proofs.lemmas.Result.{IfOk-weaker}
use Rattle.lr_conflicts.specs.Inner.Pushed.{AddsClashes, IsInOne, clash_of}
use Rattle.lr_conflicts.specs.contracts.clashes.EntryOrd.TheImpl.Laws.{matches_eq-law}
use Rattle.lr_conflicts.proofs.Pushed.{clashes_more}
use Rattle.lr_conflicts.proofs.Sorted.{clashes_are}
use Rattle.lr_conflicts.proofs.clashes.clashes.Goals as goal

pub loop-conflict-preserved : goal.loop-conflict-preserved
loop-conflict-preserved c = clashes_more c.args.grammar.now c.args.states.now c.args.conflicts.now c.loop-conflict.conflict-index c.conflict-item.result c.loop-conflict-test.true
    c.conflict-item.is [] c.loop-conflict.entries.items c.push_shifts.new.entries.items c.push_reductions.new.entries.items c.loop-conflict.invariant
    c.in_ok-push_shifts.ensures c.in_ok-push_reductions.ensures

pub returns : goal.returns
returns c = IfOk-weaker c.clashes_of.result _ _
    (λ list is. clashes_are _ matches_eq-law c.loop-conflict.entries.items c.sort_unstable.new.self.items c.dedup.new.self.items c.sort_unstable.ensures.permutation
    c.sort_unstable.ensures.sorted (dedup_is _ _ _ c.dedup.ensures.filtered) c.args.grammar.now c.args.states.now c.args.conflicts.now
    (subst (λ l. AddsClashes (IsInOne c.args.grammar.now c.args.states.now l) [] c.loop-conflict.entries.items)
    (take_all c.loop-conflict.conflict-index c.args.conflicts.now c.loop-conflict-test.false) c.loop-conflict.invariant) list.items (is ∙ ap (map clash_of) c.deref.ensures.value))
    c.clashes_of.ensures
