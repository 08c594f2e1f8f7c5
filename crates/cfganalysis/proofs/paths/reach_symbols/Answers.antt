use Rattle.std.proofs.Common.{arith, ◌∙◌}
use Rattle.derivation.specs.Grammar.{IsSymbolOf}
use Rattle.search.proofs.Each.{each_more, each_all, each_none, found_mapped}
use Rattle.cfgtables.specs.NumberedSymbols.{sym_of}
use Rattle.cfgtables.proofs.Slices.{mapped_all}
use Rattle.cfganalysis.proofs.References.{found_rules}
use Rattle.cfganalysis.proofs.paths.reach_symbols.Goals as goal

pub loop-symbol-init : goal.loop-symbol-init
loop-symbol-init g c = each_none _ _

pub reach_symbol-requires : goal.reach_symbol-requires
reach_symbol-requires g c = (
  c.requires.0,
  c.loop-symbol.invariant.shape ∙ c.requires.1,
  mapped_all (sym_of g.S.Storage.number) _ _ _ c.symbol-item.is (omega (arith, c.loop-symbol-test.true)) (IsSymbolOf c.requires.0) c.requires.2,
)

pub loop-symbol-preserved : goal.loop-symbol-preserved
loop-symbol-preserved g c = each_more _ _ _ _ _ _ _ (omega (arith, c.loop-symbol-test.true)) c.symbol-item.is c.loop-symbol.invariant c.in_ok-reach_symbol.ensures

pub returns : goal.returns
returns g c = found_rules _ _ _ (found_mapped (sym_of g.S.Storage.number) _ c.args.symbols.now _ _
    (each_all _ _ _ _ _ (omega (arith, c.loop-symbol-test.false, c.loop-symbol.auto.symbol-index-end)) c.loop-symbol.invariant))
