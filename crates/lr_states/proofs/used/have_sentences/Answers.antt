use Rattle.std.proofs.Common.{◌≡◌, ℕ, Contains, true, get_or, sym, subst, ◌∙◌, refl, true≢false, arith}
use Rattle.std.proofs.lemmas.List.{get_or_default, take_all}
use Rattle.std.proofs.lemmas.List.Elements.{Contains-get_or}
use Rattle.cfgrammar.specs.Grammar.{Rule, Token}
use Rattle.cfgrammar.specs.NumberedSymbols.{sym_of}
use Rattle.cfgrammar.specs.Symbol.{Symbol}
use Rattle.cfgrammar.specs.Symbol.TheVariants as symbols
use Rattle.cfgrammar.proofs.Contained.{contains_mapped}
use Rattle.lr_states.specs.Inner.Closure.{IsOn}
use Rattle.lr_states.proofs.Bits.{bit_read}
use Rattle.lr_states.proofs.Rules.{AreOn, on_all, on_more}
use Rattle.lr_states.proofs.used.have_sentences.Goals as goal
use Rattle.lr_states.proofs.used.have_sentences.Goals.{in-Rule+else-not-unwrap_or, in_default}

pub returns-then-not-unwrap_or : goal.returns-then-not-unwrap_or
returns-then-not-unwrap_or c =
    let bits = c.args.productive.now in
    let all = c.args.symbols.now in
    let n = c.loop-symbol.symbol-index in
    let x : Symbol ℕ = symbols.Rule c.in-Rule.rule in
    let is : get_or all n x ≡ x = get_or_default all n x _ c.loop-symbol-test.true ∙ c.in-Rule.is in
    let among : Contains all x = subst (Contains all) is (Contains-get_or all n x c.loop-symbol-test.true) in
    let read = bit_read bits c.from.result c.get.result c.unwrap_or.result c.get.ensures c.unwrap_or.ensures in (
      (λ no. absurd (true≢false (sym no))),
      (λ have.
          let on : IsOn bits c.from.result = subst (IsOn bits) (sym c.from.ensures) (have c.in-Rule.rule.0 (contains_mapped (sym_of (λ s. s)) all x among)) in
          let yes : c.unwrap_or.result ≡ true = read ∙ on in
          let off = c.if-not-unwrap_or.true in cc),
    )

pub loop-symbol-preserved : goal.loop-symbol-preserved
loop-symbol-preserved c =
    let bits = c.args.productive.now in
    let all = c.args.symbols.now in
    let n = c.loop-symbol.symbol-index in
    elim c.match-symbol.branch [
      | in-Rule+else-not-unwrap_or w ↦
          let x : Symbol ℕ = symbols.Rule w.in-Rule.rule in
          let is : x ≡ get_or all n x = sym w.in-Rule.is ∙ get_or_default all n _ x c.loop-symbol-test.true in
          let read = bit_read bits w.from.result w.get.result w.unwrap_or.result w.get.ensures w.unwrap_or.ensures in
          let off = w.if-not-unwrap_or.false in
          let yes : w.unwrap_or.result ≡ true = cc in
          on_more bits all n x c.loop-symbol-test.true is c.loop-symbol.invariant
          (λ r same. let number : w.in-Rule.rule.0 ≡ r = cc in subst (IsOn bits) (w.from.ensures ∙ number) (sym read ∙ yes))
      | in_default w ↦
          let x : Symbol ℕ = symbols.Token w.in_default.field-0 in
          let is : x ≡ get_or all n x = sym w.in_default.is ∙ get_or_default all n _ x c.loop-symbol-test.true in
          on_more bits all n x c.loop-symbol-test.true is c.loop-symbol.invariant
          (λ r same. let no : Token w.in_default.field-0.0 ≡ Rule r = same in cc)
    ]

pub returns : goal.returns
returns c =
    let all = subst (AreOn c.args.productive.now) (take_all c.loop-symbol.symbol-index c.args.symbols.now (omega (arith, c.loop-symbol-test.false))) c.loop-symbol.invariant in (
      (λ yes. on_all c.args.productive.now c.args.symbols.now all),
      (λ have. refl),
    )
