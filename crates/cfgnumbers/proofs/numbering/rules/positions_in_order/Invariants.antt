use Rattle.std.proofs.Common.{◌≡◌, map}
use Rattle.std.specs.List.{range_with_len}
use Rattle.cfgindex.specs.declared.idxnewtype.PIdx.{PIdx}
use Rattle.cfgnumbers.proofs.numbering.rules.positions_in_order.Given as goal

abbrev pub invariant-loop-index : goal.invariant-loop-index
invariant-loop-index g l = map (λ (p : PIdx g.row.S.Denot). g.S.Storage.number p.0) l.prods.items ≡ range_with_len l.first l.index
