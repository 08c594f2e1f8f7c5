use Rattle.std.proofs.Common.{◌<◌, length, arith, ◌∙◌}
use Rattle.std.proofs.lemmas.List.{length-map}
use Rattle.derivation.specs.Grammar.{IsSymbolOf}
use Rattle.cfgtables.specs.NumberedSymbols.{sym_of}
use Rattle.cfgtables.proofs.Slices.{mapped_within, mapped_at, mapped_all}
use Rattle.cfgsets.proofs.Noting.{prefix_more, prefix_all}
use Rattle.cfganalysis.proofs.firsts.note_rules.Goals as goal

pub note_symbol-requires : goal.note_symbol-requires
note_symbol-requires g c = (
  c.requires.0,
  c.loop-held.invariant.shape ∙ c.requires.1,
  mapped_all (sym_of g.S.Storage.number) _ _ _ c.held-item.is (omega (arith, c.loop-held-test.true)) (IsSymbolOf c.requires.0) c.requires.2,
)

pub loop-held-preserved : goal.loop-held-preserved
loop-held-preserved g c =
    let lt : c.loop-held.held-index < length c.args.symbols.now = omega (arith, c.loop-held-test.true) in
    prefix_more _ _ _ _ _ _ _ (mapped_within (sym_of g.S.Storage.number) _ _ _ c.held-item.is lt)
    (mapped_at (sym_of g.S.Storage.number) _ _ _ c.held-item.is lt) c.loop-held.invariant c.in_ok-note_symbol.ensures

pub returns : goal.returns
returns g c = prefix_all _ _ _ _ _ (simp length-map (omega (arith, c.loop-held-test.false, c.loop-held.auto.held-index-end))) c.loop-held.invariant
