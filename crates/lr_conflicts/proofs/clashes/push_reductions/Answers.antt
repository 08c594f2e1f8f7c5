use Rattle.std.proofs.Common.{sym, ◌∙◌}
use Rattle.std.proofs.lemmas.Result.{IfOk-weaker}
use Rattle.lr_conflicts.proofs.Pushed.{reductions_all}
use Rattle.lr_conflicts.proofs.clashes.push_reductions.Goals as goal

pub returns-in-Some : goal.returns-in-Some
returns-in-Some c = IfOk-weaker c.push_against.result _ _
    (λ _ adds. reductions_all c.args.grammar.now c.args.conflict.now c.in-Some.first.now c.in-Some.rest.now c.read_item-other.result
    (sym c.deref.ensures.value ∙ c.in-Some.ensures.cases.0) c.read_item-other.ensures c.args.entries.now.items c.push_against.new.entries.items adds)
    c.push_against.ensures
