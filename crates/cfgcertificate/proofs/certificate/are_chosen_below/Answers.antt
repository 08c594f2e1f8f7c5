use Rattle.std.proofs.Common.{map, length, refl, sym, ◌∙◌, true≢false}
use Rattle.cfgtables.specs.NumberedSymbols.{sym_of}
use Rattle.derivation.specs.CostLists.{IsListed}
use Rattle.cfgleast.specs.Certificate.{IsChosenBelow, choice_of}
use Rattle.derivation.proofs.Sequences.{shown_holds, shown_more, shown_all}
use Rattle.cfgcertificate.proofs.certificate.are_chosen_below.Goals as goal

pub is_chosen_below-requires : goal.is_chosen_below-requires
is_chosen_below-requires g c = (
  c.requires.0,
  shown_holds _ _ c.loop-symbol.symbol-index _ c.loop-symbol-test.true c.symbol-item.is (IsListed (length c.args.choices.now) c.requires.0) c.requires.1,
)

pub returns-then-not-is_chosen_below : goal.returns-then-not-is_chosen_below
returns-then-not-is_chosen_below g c =
    let below = IsChosenBelow (map (choice_of g.S.Storage.number) c.args.choices.now) c.args.number in (
      (λ h. absurd (true≢false (sym h))),
      (λ all. sym c.if-not-is_chosen_below.true ∙ c.is_chosen_below.ensures.1
          (shown_holds (sym_of g.S.Storage.number) c.args.symbols.now c.loop-symbol.symbol-index _ c.loop-symbol-test.true c.symbol-item.is below all)),
    )

pub loop-symbol-preserved : goal.loop-symbol-preserved
loop-symbol-preserved g c =
    let below = IsChosenBelow (map (choice_of g.S.Storage.number) c.args.choices.now) c.args.number in
    shown_more (sym_of g.S.Storage.number) c.args.symbols.now c.loop-symbol.symbol-index _ c.loop-symbol-test.true c.symbol-item.is below
    c.loop-symbol.invariant (c.is_chosen_below.ensures.0 c.if-not-is_chosen_below.false)

pub returns : goal.returns
returns g c =
    let below = IsChosenBelow (map (choice_of g.S.Storage.number) c.args.choices.now) c.args.number in
    ((λ _. shown_all (sym_of g.S.Storage.number) c.args.symbols.now below c.loop-symbol.symbol-index c.loop-symbol-test.false c.loop-symbol.invariant), (λ _. refl))
