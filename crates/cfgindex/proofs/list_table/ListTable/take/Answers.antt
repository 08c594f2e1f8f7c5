use Rattle.std.proofs.Common.{slice_set, ap, ◌∙◌}
use Rattle.cfgindex.proofs.ListTables.{replaced}
use Rattle.cfgindex.proofs.list_table.ListTable.take.Goals as goal

pub returns-clause-rest : goal.returns-clause-rest
returns-clause-rest g c =
    replaced _ _ _ c.self.view_is _ ∙ ap (slice_set c.args.self.now c.args.index) (ap (λ list. list.items) c.replace.ensures.after ∙ c.new.ensures.items)
