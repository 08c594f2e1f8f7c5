use Rattle.std.proofs.Common.{◌≡◌, ℕ, List, get_or, ap, sym, subst, ◌∙◌}
use Rattle.cfgrammar.specs.Grammar.{Production}
use Rattle.cfgrammar.specs.Numbered.{core}
use Rattle.cfgfindings.specs.Inner.FirstProductions.{IsFirst}
use Rattle.cfgfindings.proofs.repeats.RepeatsReporter.report.Goals as goal

pub returns-in_ok-repeated-in-Some : goal.returns-in_ok-repeated-in-Some
returns-in_ok-repeated-in-Some c = λ are.
    let g = core c.args.self.now.grammar.now in
    let p = c.args.number in
    let first = c.in-Some.first.now in
    let there : get_or c.args.self.now.firsts.items p 0 ≡ first = ap (λ (firsts : List ℕ). get_or firsts p 0) (sym c.deref.ensures.value) ∙ sym (c.in-Some.ensures.lookup.3.1 0) in
    let is = subst (IsFirst g p) there (are.each p c.requires) in (
      first,
      record {
        ours = c.requires;
        before = c.if-first-number.true;
        rule = ap (λ (production : Production). production.rule) is.same;
        symbols = ap (λ (production : Production). production.symbols) is.same;
      },
      λ other repeats. is.least other repeats.before (λ i. record { rule = repeats.rule i; symbols = repeats.symbols i }),
      c.in_ok-repeated-in-Some.ensures,
    )
