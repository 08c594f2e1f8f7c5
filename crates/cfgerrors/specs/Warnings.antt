-- A warning as plain data: what callers see of a `YaccGrammarWarning`.
use Rattle.std.specs.Prelude.{Bool, ◌&&◌, List, [], ◌∷◌}
use Rattle.std.specs.Cmp.{IsEquivalence}
use Rattle.std.proofs.lemmas.Cmp.{and_equiv, on_equiv}
use Rattle.cfgbase.specs.declared.span.Span.{Span}
use Rattle.cfgbase.specs.Spans.{same_spans, same_spans-equivalence}
use Rattle.cfgerrors.specs.declared.warning.YaccGrammarWarningKind.{YaccGrammarWarningKind}
use Rattle.cfgerrors.specs.contracts.warning.YaccGrammarWarningKindPartialEq.TheImpl.{ghosts as kinds}
use Rattle.cfgerrors.specs.contracts.warning.YaccGrammarWarningKindEq.TheImpl.Laws.{laws-law}

-- what the warning is, and where
pub record GrammarWarning : Type 0 where
  pub kind : YaccGrammarWarningKind
  pub spans : List Span

-- a warning at one span
abbrev pub warning_at : YaccGrammarWarningKind → Span → GrammarWarning
warning_at kind span = record { kind = kind; spans = span ∷ [] }

-- `==` of two warnings
abbrev pub same_warning : GrammarWarning → GrammarWarning → Bool
same_warning a b = kinds.eq a.kind b.kind && same_spans a.spans b.spans

pub same_warning-equivalence : IsEquivalence same_warning
same_warning-equivalence =
    and_equiv (on_equiv (λ w. w.kind) laws-law) (on_equiv (λ w. w.spans) same_spans-equivalence)
