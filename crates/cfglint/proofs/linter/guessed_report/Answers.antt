use Rattle.std.proofs.Common.{◌≡◌, Bool, true, false, not, refl, sym, inl, inr, ◌∙◌, true≢false}
use Rattle.cfgprogram.specs.declared.kinds.KindArg.TheVariants.{Named}
use Rattle.cfglint.specs.Readings.{IsPlainGrammar, IsReadAsYacc, plain_kind}
use Rattle.cfglint.specs.Reported.{of_yacc}
use Rattle.cfglint.specs.Signs.{HasBisonSign}
use Rattle.cfglint.proofs.Outcomes.{grammar_of, reported_of}
use Rattle.cfglint.proofs.linter.guessed_report.Goals as goal

unrefused : (is_refused : Bool) → not is_refused ≡ true → is_refused ≡ false
unrefused true is = absurd (true≢false (sym is))
unrefused false is = refl

pub returns-then-not-outcome : goal.returns-then-not-outcome
returns-then-not-outcome c =
    let options = c.args.reporter.now.options in
    let name = c.args.reporter.now.name.now in
    let text = c.args.text.now in
    let outcome = c.in_ok-outcome.outcome in
    let is = c.in_ok-outcome.ensures in
    let made = grammar_of options name text outcome is.0 is.2 (unrefused outcome.is_refused c.if-not-outcome.true) in
    let grammar : IsPlainGrammar text = record { found = is.0; is_found = is.1; grammar = made.0; is_grammar = made.1 } in
    of_yacc (Named plain_kind) (IsReadAsYacc.plain c.requires (inr grammar)) (reported_of options name text (Named plain_kind) outcome is)

pub returns-then-not-has_bison_sign : goal.returns-then-not-has_bison_sign
returns-then-not-has_bison_sign c =
    let options = c.args.reporter.now.options in
    let name = c.args.reporter.now.name.now in
    let text = c.args.text.now in
    let outcome = c.in_ok-outcome.outcome in
    let none : HasBisonSign text → ⊥ = λ has. absurd (true≢false (sym (c.has_bison_sign.ensures.1 has) ∙ c.if-not-has_bison_sign.true)) in
    of_yacc (Named plain_kind) (IsReadAsYacc.plain c.requires (inl none)) (reported_of options name text (Named plain_kind) outcome c.in_ok-outcome.ensures)
