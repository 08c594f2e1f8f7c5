use Rattle.std.proofs.Common.{ℕ, List, [], ◌∷◌, Some, string_bytes, ap, ◌∙◌}
use Rattle.cfgrammar.specs.Span.{Span}
use Rattle.finding_kinds.specs.declared.finding_kind.FindingKind.TheVariants.{UnknownKey}
use Rattle.text_findings.specs.Finding.{ShownFinding}
use Rattle.text_findings.proofs.keys.unknown_key.Goals as goal

abbrev noted : Span → List ℕ → List ℕ → ShownFinding
noted span text note = record { kind = UnknownKey; spans = span ∷ []; text = text; hint = Some note }

pub returns : goal.returns
returns c =
    let note = string_bytes c.in_ok-hint.hint in
    c.with_hint.ensures ∙ ap (λ (finding : ShownFinding). record finding { hint = Some note }) c.in_ok-finding.ensures
    ∙ ap (λ text. noted c.args.span text note) c.in_ok-text.ensures.ok
    ∙ ap (noted c.args.span _) c.in_ok-hint.ensures
