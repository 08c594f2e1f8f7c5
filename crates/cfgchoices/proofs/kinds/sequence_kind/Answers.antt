use Rattle.std.proofs.Common.{◌≡◌, map, sym, ◌∙◌, arith}
use Rattle.std.proofs.lemmas.Option.{same_Some}
use Rattle.std.specs.List.{slice_index}
use Rattle.cfgtables.specs.NumberedSymbols.{sym_of}
use Rattle.derivation.specs.CostLists.{rule_cost}
use Rattle.cfgchoices.proofs.Optimal.{stops_none}
use Rattle.cfgchoices.proofs.kinds.sequence_kind.Goals as goal

pub returns-else-sum-cost : goal.returns-else-sum-cost
returns-else-sum-cost g c = λ e.
    let whole = c.in-Ok.ensures.whole in
    let same : whole.total ≡ c.args.cost = same_Some _ _ (sym whole.is ∙ e) in
    omega (arith, c.if-sum-cost.false, whole.cut, same, c.requires.small)

pub returns-in-Err : goal.returns-in-Err
returns-in-Err g c = stops_none (slice_index c.args.costs.now) (rule_cost c.args.least.now) (map (sym_of g.S.Storage.number) c.args.symbols.now) c.in-Err.field-0.0 c.args.cost
    c.in-Err.field-0.1 c.in-Err.ensures.stop
