use Rattle.std.proofs.Common.{◌<◌, length, arith, subst, sym, ◌∙◌}
use Rattle.std.proofs.lemmas.List.{length-map}
use Rattle.derivation.specs.Grammar.{IsSymbolOf}
use Rattle.cfgtables.specs.NumberedSymbols.{sym_of}
use Rattle.cfgtables.proofs.Located.{owner, all_symbols}
use Rattle.cfgtables.proofs.Slices.{mapped_within, mapped_at, mapped_all}
use Rattle.cfganalysis.proofs.FirstVisits.{visits_one, visits_end, visits_all}
use Rattle.cfganalysis.proofs.firsts.GrowingFirsts.add_production.Goals as goal

pub put_first-changed-requires : goal.put_first-changed-requires
put_first-changed-requires g c = (
  c.requires.0,
  (c.loop-symbol.invariant.walked.growth.sound c.requires.0 c.requires.1 c.requires.3 c.requires.2).fits,
  owner _ _ c.requires.1 c.requires.3,
  mapped_all (sym_of g.S.Storage.number) _ _ _ c.symbol-item.is (omega (arith, c.loop-symbol-test.true)) (IsSymbolOf c.requires.0)
      (all_symbols c.requires.0 _ c.requires.1 c.requires.3),
)

pub returns-then-not-is_nullable_symbol : goal.returns-then-not-is_nullable_symbol
returns-then-not-is_nullable_symbol g c =
    let lt : c.loop-symbol.symbol-index < length c.args.symbols.now = omega (arith, c.loop-symbol-test.true) in
    visits_end _ _ _ _ _ _ _ _ _ (mapped_within (sym_of g.S.Storage.number) _ _ _ c.symbol-item.is lt)
    (mapped_at (sym_of g.S.Storage.number) _ _ _ c.symbol-item.is lt) c.loop-symbol.invariant
    (record { nullable = c.put_first-changed.ensures.nullable; joins = c.put_first-changed.ensures.joins })
    (sym c.is_nullable_symbol.ensures ∙ c.if-not-is_nullable_symbol.true)

pub loop-symbol-preserved : goal.loop-symbol-preserved
loop-symbol-preserved g c =
    let lt : c.loop-symbol.symbol-index < length c.args.symbols.now = omega (arith, c.loop-symbol-test.true) in
    visits_one _ _ _ _ _ _ _ _ _ (mapped_within (sym_of g.S.Storage.number) _ _ _ c.symbol-item.is lt)
    (mapped_at (sym_of g.S.Storage.number) _ _ _ c.symbol-item.is lt) c.loop-symbol.invariant
    (record { nullable = c.put_first-changed.ensures.nullable; joins = c.put_first-changed.ensures.joins })
    (sym c.is_nullable_symbol.ensures ∙ c.if-not-is_nullable_symbol.false)

pub put_epsilon-requires : goal.put_epsilon-requires
put_epsilon-requires g c = subst (λ n. g.S.Storage.number c.args.rule.0 < n)
    (sym (c.loop-symbol.invariant.walked.growth.sound c.requires.0 c.requires.1 c.requires.3 c.requires.2).fits.nullable) (owner _ _ c.requires.1 c.requires.3)

pub returns : goal.returns
returns g c = visits_all _ _ _ _ _ _ _ _ _ c.requires.1 c.requires.3 c.requires.2
    (simp length-map (omega (arith, c.loop-symbol-test.false, c.loop-symbol.auto.symbol-index-end))) c.loop-symbol.invariant
    c.put_epsilon.ensures.bits c.put_epsilon.ensures.was
