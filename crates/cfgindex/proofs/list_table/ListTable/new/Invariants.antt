use Rattle.std.proofs.Common.{◌≡◌, [], map, replicate}
use Rattle.cfgindex.proofs.list_table.ListTable.new.Given as goal

abbrev pub invariant-loop-index : goal.invariant-loop-index
invariant-loop-index g l = map (λ list. list.items) l.lists.items ≡ replicate l._index []
