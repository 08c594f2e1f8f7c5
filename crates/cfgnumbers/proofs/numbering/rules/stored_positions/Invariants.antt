use Rattle.std.proofs.Common.{◌≡◌, map, take}
use Rattle.cfgindex.specs.declared.idxnewtype.PIdx.{PIdx}
use Rattle.cfgnumbers.proofs.numbering.rules.stored_positions.Given as goal

abbrev pub invariant-loop-index : goal.invariant-loop-index
invariant-loop-index g l = map (λ (p : PIdx g.row.S.Denot). g.S.Storage.number p.0) l.prods.items ≡ take l.index-index l.positions
