use Rattle.std.proofs.Common.{◌≡◌, ◌≢◌, ℕ, cond, List, [], ◌∷◌, ◌++◌, Option, None, Some, codes, ap, sym, ◌∙◌}
use Rattle.std.specs.Fmt.{decimal}
use Rattle.std.proofs.lemmas.Bool.{ne_eqb}
use Rattle.cfgrammar.specs.Span.{Span}
use Rattle.finding_kinds.specs.declared.finding_kind.FindingKind.TheVariants.{UnmetExpect}
use Rattle.text_findings.specs.Finding.{ShownFinding}
use Rattle.bison_findings.specs.Shown.{unmet}
use Rattle.bison_findings.proofs.expectations.push_number.Goals as goal

abbrev unmet_at : Span → List ℕ → ShownFinding
unmet_at span text = record { kind = UnmetExpect; spans = span ∷ []; text = text; hint = None }

is_unmet : (title : List ℕ) (found : ℕ) (expected : Option (ℕ × Span)) (number : ℕ) (span : Span) → expected ≡ Some (number, span) → number ≢ found
    → unmet title found expected ≡ unmet_at span (title ++ (decimal found ++ (codes " found, " ++ (decimal number ++ codes " expected")))) ∷ []
is_unmet title found expected number span is other = ap (unmet title found) is
    ∙ ap (λ b. cond b [] (unmet_at span (title ++ (decimal found ++ (codes " found, " ++ (decimal number ++ codes " expected")))) ∷ [])) (ne_eqb number found other)

pub returns : goal.returns
returns c = c.in_ok-push.ensures.items ∙ ap (λ findings. c.args.all.now.items ++ findings)
    (ap (λ finding. finding ∷ []) (c.in_ok-at.ensures ∙ ap (unmet_at c.in-Some.span) c.in_ok-text.ensures.ok)
    ∙ sym (is_unmet c.args.title.now c.args.found c.args.expected c.in-Some.number c.in-Some.span c.in-Some.is c.if-number-found.false))
