use Rattle.std.proofs.Common.{◌∷◌, [], ◌++◌, slice_set, ap, ◌∙◌}
use Rattle.cfgindex.proofs.ListTables.{list_kept, list_shown, on_err, replaced}
use Rattle.cfgindex.proofs.list_table.ListTable.push.Goals as goal

pub returns-in_err-push-clause-err : goal.returns-in_err-push-clause-err
returns-in_err-push-clause-err g c = on_err _ (list_kept _ _ _ c.self.view_is _ c.requires c.index_mut.ensures.value _ c.in_err-push.ensures.items)

pub returns-clause-ok : goal.returns-clause-ok
returns-clause-ok g c =
    replaced _ _ _ c.self.view_is _ ∙ ap (slice_set c.args.self.now c.args.index) (c.in_ok-push.ensures.items
    ∙ ap (λ list. list ++ c.args.item ∷ []) (list_shown _ _ _ c.self.view_is _ c.requires c.index_mut.ensures.value))
