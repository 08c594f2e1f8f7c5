use Rattle.std.proofs.Common.{◌≡◌, ◌<◌, ℕ, refl, sym, subst, ◌∙◌}
use Rattle.std.proofs.lemmas.List.{get_or_default}
use Rattle.cfgrammar.specs.Accessors.{IsSymbolWithin}
use Rattle.cfgrammar.specs.Grammar.{HasProduction, Rule, Token}
use Rattle.cfgrammar.specs.Numbered.{core}
use Rattle.cfgrammar.specs.NumberedSymbols.{sym_of}
use Rattle.cfgrammar.specs.Productive.{Productive}
use Rattle.cfgrammar.specs.Symbol.{Symbol}
use Rattle.cfgrammar.specs.Symbol.TheVariants as symbols
use Rattle.cfgfindings.proofs.Needs.{needed_left_out, needed_put}
use Rattle.cfgfindings.proofs.sink_groups.push_needed.Goals as goal
use Rattle.cfgfindings.proofs.sink_groups.push_needed.Goals.{in-Rule+then-contains+in_ok-push, in-Rule+else-contains, in_default}

pub loop-symbol-preserved : goal.loop-symbol-preserved
loop-symbol-preserved c =
    let g = c.args.unproductive.now in
    let all = c.args.symbols.now in
    let n = c.loop-symbol.symbol-index in
    let lt = c.loop-symbol-test.true in
    let old = c.args.needs.now in
    let mid = c.loop-symbol.needs in
    let before = c.loop-symbol.invariant in
    elim c.match-symbol.branch [
      | in-Rule+then-contains+in_ok-push w ↦
          let x : Symbol ℕ = symbols.Rule w.in-Rule.needed in
          let is = sym w.in-Rule.is ∙ get_or_default all n _ x lt in
          let there = subst (IsSymbolWithin (λ s. s) g) (sym is) (c.requires.within n x lt) in
          needed_put g (sym_of (λ s. s)) all n x lt is c.args.rule old mid c.match-symbol.needs w.in-Rule.needed.0 refl w.if-contains.ensures w.step_to.result
          (w.step_to.ensures ∙ w.from.ensures) (subst (λ k. c.args.rule < k) (sym before.shape) c.requires.rule)
          (subst (λ k. w.in-Rule.needed.0 < k) (sym (before.shape ∙ c.requires.entries)) there) (w.needs-is ∙ w.in_ok-push.ensures.ok) before
      | in-Rule+else-contains w ↦
          let x : Symbol ℕ = symbols.Rule w.in-Rule.needed in
          let is = sym w.in-Rule.is ∙ get_or_default all n _ x lt in
          needed_left_out g (sym_of (λ s. s)) all n x lt is c.args.rule old mid c.match-symbol.needs
          (λ q same none. let number : w.in-Rule.needed.0 ≡ q = cc in let (sentence, has) = subst (Productive (HasProduction (core g))) number w.if-contains.ensures in none sentence has) w.needs-is before
      | in_default w ↦
          let x : Symbol ℕ = symbols.Token w.in_default.field-0 in
          let is = sym w.in_default.is ∙ get_or_default all n _ x lt in
          needed_left_out g (sym_of (λ s. s)) all n x lt is c.args.rule old mid c.match-symbol.needs
          (λ q same none. let differ : Token w.in_default.field-0.0 ≡ Rule q = same in cc) w.needs-is before
    ]
