use Rattle.std.proofs.Common.{◌≡◌, ℕ, ◌+◌, false, map, take, drop, sym, ◌∙◌, subst}
use Rattle.std.proofs.lemmas.List.{get_or_default}
use Rattle.cfgrammar.specs.Grammar.{Rule, Token}
use Rattle.cfgrammar.specs.Symbol.{Symbol}
use Rattle.cfgrammar.specs.Symbol.TheVariants as symbols
use Rattle.cfgrammar.specs.Accessors.{IsSymbolWithin}
use Rattle.cfgrammar.specs.NumberedSymbols.{sym_of}
use Rattle.cfgfindings.specs.Inner.Unproductive.{UnproductiveOrNot}
use Rattle.cfgfindings.proofs.RulesAmong.{around, one_more_rule}
use Rattle.cfgfindings.proofs.sentences.Unproductive.first_among.Goals as goal
use Rattle.cfgfindings.proofs.sentences.Unproductive.first_among.Goals.{in-Rule+else-contains, in_default}

pub loop-symbol-preserved : goal.loop-symbol-preserved
loop-symbol-preserved c =
    let g = c.args.self.now in
    let all = c.args.symbols.now in
    let n = c.loop-symbol.symbol-index in
    let Has : ℕ → Type 0 = λ q. UnproductiveOrNot g q false in
    elim c.match-symbol.branch [
      | in-Rule+else-contains w ↦
          let x : Symbol ℕ = symbols.Rule w.in-Rule.rule in
          let is = sym w.in-Rule.is ∙ get_or_default all n _ x c.loop-symbol-test.true in
          one_more_rule (sym_of (λ s. s)) all n x c.loop-symbol-test.true is Has c.loop-symbol.invariant
          (λ q same. let number : w.in-Rule.rule.0 ≡ q = cc in subst Has number w.if-contains.ensures)
      | in_default w ↦
          let x : Symbol ℕ = symbols.Token w.in_default.field-0 in
          let is = sym w.in_default.is ∙ get_or_default all n _ x c.loop-symbol-test.true in
          one_more_rule (sym_of (λ s. s)) all n x c.loop-symbol-test.true is Has c.loop-symbol.invariant
          (λ q same. let no : Token w.in_default.field-0.0 ≡ Rule q = same in cc)
    ]

pub returns-then-contains : goal.returns-then-contains
returns-then-contains c =
    let all = c.args.symbols.now in
    let n = c.loop-symbol.symbol-index in
    let x : Symbol ℕ = symbols.Rule c.in-Rule.rule in
    let is = sym c.in-Rule.is ∙ get_or_default all n _ x c.loop-symbol-test.true in
    record {
      first = record {
        prefix = map (sym_of (λ s. s)) (take n all);
        back = map (sym_of (λ s. s)) (drop (n + 1) all);
        holds = around (sym_of (λ s. s)) all n x c.loop-symbol-test.true is;
        unproductive = c.if-contains.ensures;
        before = λ r held none. let (sentence, has) = c.loop-symbol.invariant r held in none sentence has;
      };
      within = subst (IsSymbolWithin (λ s. s) c.args.self.now) (sym is) (c.requires n x c.loop-symbol-test.true);
    }
