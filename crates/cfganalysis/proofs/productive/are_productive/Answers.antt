use Rattle.std.proofs.Common.{◌∙◌, sym, IsTrue, true≢false}
use Rattle.cfgtables.specs.NumberedSymbols.{sym_of}
use Rattle.derivation.proofs.Sequences.{shown_all, shown_holds, shown_more}
use Rattle.cfganalysis.specs.ProductiveRules.{is_productive_symbol}
use Rattle.cfganalysis.proofs.productive.are_productive.Goals as goal

pub returns-then-not-is_productive : goal.returns-then-not-is_productive
returns-then-not-is_productive g c = λ all. true≢false (sym (shown_holds (sym_of g.S.Storage.number) _ _ _ c.loop-symbol-test.true c.symbol-item.is
    (λ s. IsTrue (is_productive_symbol c.args.productive.now s)) all) ∙ sym c.is_productive.ensures ∙ c.if-not-is_productive.true)

pub loop-symbol-preserved : goal.loop-symbol-preserved
loop-symbol-preserved g c = shown_more (sym_of g.S.Storage.number) _ _ _ c.loop-symbol-test.true c.symbol-item.is
    (λ s. IsTrue (is_productive_symbol c.args.productive.now s)) c.loop-symbol.invariant (sym c.is_productive.ensures ∙ c.if-not-is_productive.false)

pub returns : goal.returns
returns g c = shown_all (sym_of g.S.Storage.number) c.args.symbols.now (λ s. IsTrue (is_productive_symbol c.args.productive.now s)) c.loop-symbol.symbol-index
    c.loop-symbol-test.false c.loop-symbol.invariant
