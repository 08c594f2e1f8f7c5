use Rattle.std.proofs.Common.{None, is_some, ap, sym, subst, ◌∙◌}
use Rattle.std.proofs.lemmas.List.{get_or_default}
use Rattle.cfgcycles.specs.Inner.Layers.{Finds}
use Rattle.cfgcycles.proofs.Finding.{finds_known, finds_new}
use Rattle.cfgcycles.proofs.shortest.Layers.note.Goals as goal

pub returns-in_ok-push-clause-found : goal.returns-in_ok-push-clause-found
returns-in_ok-push-clause-found c =
    let table = c.args.self.now.found.items in
    let noted = get_or_default table c.args.step.rule None c.index.result.now c.requires ∙ sym c.index.ensures in
    subst (Finds _ _ table _ _) (sym c.in_ok-push.ensures.items)
    (finds_new _ table c.args.next.now.items c.args.from c.args.step c.requires (ap is_some noted ∙ c.if-is_none.ensures))

pub returns-else-is_none-clause-found : goal.returns-else-is_none-clause-found
returns-else-is_none-clause-found c =
    let table = c.args.self.now.found.items in
    let noted = get_or_default table c.args.step.rule None c.index.result.now c.requires ∙ sym c.index.ensures in
    finds_known _ table c.args.next.now.items c.args.from c.args.step (ap is_some noted ∙ c.if-is_none.ensures)
