use Rattle.std.proofs.Common.{ℕ, List, ◌≤◌, All, length, map, refl, sym, subst, ◌∙◌}
use Rattle.std.proofs.lemmas.Bool.{false≢true}
use Rattle.std.proofs.lemmas.List.{take_all}
use Rattle.std.proofs.lemmas.List.Elements.{All-more}
use Rattle.cfgitems.specs.SyntaxView.{symbol_view}
use Rattle.cfgitems.specs.declared.production.Production.{Production}
use Rattle.cfgitems.specs.declared.symbol.Symbol.{Symbol}
use Rattle.cfgnumbers.specs.Numbered.{file_symbols}
use Rattle.cfgnumbers.specs.TablesView.{file_of, implicit_in}
use Rattle.cfgnumbers.proofs.numbering.Numbering.all_symbols_fit.Goals as goal
use Rattle.cfgnumbers.specs.declared.numbering.Numbering.{Numbering}

abbrev Fits : ℕ → Numbering → List Symbol → Type 0
Fits most numbering symbols = length (file_symbols (implicit_in numbering) (file_of numbering) (map symbol_view symbols)) ≤ most

pub loop-production-preserved : goal.loop-production-preserved
loop-production-preserved g c =
    let fits = subst (Fits g.S.Storage.MAX c.args.self.now) c.deref.ensures.value (c.symbols_fit.ensures.0 c.if-not-symbols_fit.false) in
    let here = subst (λ (production : Production). Fits g.S.Storage.MAX c.args.self.now production.symbols.items) c.production-item.is fits in
    All-more (λ (production : Production). Fits g.S.Storage.MAX c.args.self.now production.symbols.items) c.args.productions.now
    c.loop-production.production-index c.production-item.result c.loop-production-test.true c.loop-production.invariant here

pub returns-then-not-symbols_fit : goal.returns-then-not-symbols_fit
returns-then-not-symbols_fit g c = (
  λ no. absurd (false≢true no),
  λ all.
      let here = all c.loop-production.production-index c.production-item.result c.loop-production-test.true in
      let fits = subst (λ (production : Production). Fits g.S.Storage.MAX c.args.self.now production.symbols.items) (sym c.production-item.is) here in
      absurd (false≢true (sym c.if-not-symbols_fit.true ∙ c.symbols_fit.ensures.1 (subst (Fits g.S.Storage.MAX c.args.self.now) (sym c.deref.ensures.value) fits))),
)

pub returns : goal.returns
returns g c = (
  λ _. subst (All (λ (production : Production). Fits g.S.Storage.MAX c.args.self.now production.symbols.items))
      (take_all c.loop-production.production-index c.args.productions.now c.loop-production-test.false) c.loop-production.invariant,
  λ _. refl,
)
