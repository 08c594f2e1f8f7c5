-- `==` distinguishes two warnings exactly if callers see them differ.
use Rattle.std.proofs.Common.{◌≡◌, ◌↔◌, refl, subst, IsTrue, true}
use Rattle.std.proofs.lemmas.Bool.{false≢true, and_parts}
use Rattle.cfgerrors.specs.declared.warning.YaccGrammarWarningKind.{YaccGrammarWarningKind}
use Rattle.cfgerrors.specs.declared.warning.YaccGrammarWarningKind.TheVariants.{UnusedRule, UnusedToken}
use Rattle.cfgerrors.specs.contracts.warning.YaccGrammarWarningKindPartialEq.TheImpl.{ghosts as kinds}
use Rattle.cfgbase.specs.Spans.{same_spans}
use Rattle.cfgbase.proofs.SpanLemmas.{same_spans_iff}
use Rattle.cfgerrors.specs.Warnings.{GrammarWarning, same_warning, same_warning-equivalence}

same_warning_kind-true : (a b : YaccGrammarWarningKind) → kinds.eq a b ≡ true → a ≡ b
same_warning_kind-true UnusedRule UnusedRule h = refl
same_warning_kind-true UnusedToken UnusedToken h = refl
same_warning_kind-true a b h = absurd (false≢true h)

same_warning-true : (a b : GrammarWarning) → same_warning a b ≡ true → a ≡ b
same_warning-true a b h =
    let both = and_parts (kinds.eq a.kind b.kind) (same_spans a.spans b.spans) h in
    let kind = same_warning_kind-true a.kind b.kind both.0 in
    let spans = (same_spans_iff a.spans b.spans).0 both.1 in
    λ i. record { kind = kind i; spans = spans i }

pub same_warning_iff : (a b : GrammarWarning) → IsTrue (same_warning a b) ↔ (a ≡ b)
same_warning_iff a b = (same_warning-true a b, λ e. subst (λ (w : GrammarWarning). same_warning a w ≡ true) e (same_warning-equivalence.refl a))
