use Rattle.std.proofs.Common.{◌≡◌, ◌<◌, All, length}
use Rattle.std.specs.List.{slice_index}
use Rattle.cfgindex.specs.declared.idxnewtype.TIdx.{TIdx}
use Rattle.cfgcosts.proofs.generator.token_costs.Given as goal

abbrev pub invariant-loop-number : goal.invariant-loop-number
invariant-loop-number g l = record {
  len : length l.costs.items ≡ l.number;
  positive : All (λ c. 0 < c) l.costs.items;
  costs : (t : TIdx _) → g.S.Storage.number t.0 < l.number → goal.F-post g l.cost t (slice_index l.costs.items (g.S.Storage.number t.0));
}
