use Rattle.std.proofs.Common.{map, min, ◌+◌, length, arith, subst, sym, ap, ◌∙◌}
use Rattle.std.specs.List.{slice_index}
use Rattle.std.proofs.lemmas.Grind.{common_steps}
use Rattle.cfgtables.specs.NumberedSymbols.{sym_of}
use Rattle.derivation.specs.Sums.{symbol_cost}
use Rattle.derivation.specs.CostLists.{IsListed, rule_cost}
use Rattle.derivation.proofs.Sequences.{next_shown, shown_holds}
use Rattle.cfgleast.proofs.Cut.{SumSoFar, sum_none, sum_one}
use Rattle.cfgcertificate.proofs.certificate.cut_sum.Goals as goal

pub cost_of_symbol-requires : goal.cost_of_symbol-requires
cost_of_symbol-requires g c = shown_holds _ _ c.loop-symbol.symbol-index _ c.loop-symbol-test.true c.symbol-item.is
    (IsListed (length c.args.least.now) (length c.args.costs.now)) c.requires

pub loop-symbol-preserved : goal.loop-symbol-preserved
loop-symbol-preserved g c =
    let costs = symbol_cost (slice_index c.args.costs.now) (rule_cost c.args.least.now) in
    let all = map (sym_of g.S.Storage.number) c.args.symbols.now in
    let next = next_shown (sym_of g.S.Storage.number) c.args.symbols.now c.loop-symbol.symbol-index _ c.loop-symbol-test.true c.symbol-item.is in
    sum_one costs all _ _ _ _ _ (subst (λ rest. SumSoFar costs all rest c.loop-symbol.sum) next c.loop-symbol.invariant)
    (sym c.cost_of_symbol.ensures ∙ c.in_ok-cost.was) (c.min-sum.ensures ∙ ap (λ n. min 65536 (c.loop-symbol.sum + n)) c.from.ensures)

pub returns : goal.returns
returns g c = grind (arith, common_steps)

pub returns-in_err-cost : goal.returns-in_err-cost
returns-in_err-cost g c = grind (arith, common_steps)

pub loop-symbol-init : goal.loop-symbol-init
loop-symbol-init g c = sum_none _ _
