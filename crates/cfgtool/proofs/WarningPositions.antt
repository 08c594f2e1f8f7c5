-- The spans of a syntax's warnings are spans of the syntax.
use Rattle.std.proofs.Common.{List, [], All, map, arith}
use Rattle.std.specs.List.{zip}
use Rattle.std.proofs.lemmas.List.Elements.{All-nil, All-cons, All-head, All-tail, All-append, All-map}
use Rattle.cfgrammar.proofs.Zips.{All-zip}
use Rattle.cfgrammar.specs.Span.{Span}
use Rattle.cfgrammar.specs.Syntax.{Syntax, EachSpan}
use Rattle.cfgrammar.specs.Unused.{Name, AreWarnings, Warned, none, taken, left, possible_warnings, rule_warning, token_warning}
use Rattle.cfgrammar.specs.Warnings.{GrammarWarning, warning_at}
use Rattle.cfgrammar.specs.YaccGrammarWarningKind.{YaccGrammarWarningKind}
use Rattle.cfgrammar.specs.YaccGrammarWarningKind.TheVariants.{UnusedRule, UnusedToken}
use Rattle.cfgtool.specs.ReportLines.{EachWarningSpan}

module _ (P Q : Span → Type 0) where
  located : (kind : YaccGrammarWarningKind) (span : Span) → P span → EachWarningSpan P (warning_at kind span)
  located kind span here = record { some = omega arith; each = All-cons P span [] here (All-nil P) }

  warned : (s : Syntax) (possible : List (Name × GrammarWarning)) (reported : List GrammarWarning) → Warned s possible reported
      → All (λ named. EachWarningSpan P named.1) possible → All (EachWarningSpan P) reported
  warned s _ _ none all = All-nil (EachWarningSpan P)
  warned s _ _ (taken {name = name} {warning = warning} {rest = rest} {warnings = reported} unused w) all =
      All-cons (EachWarningSpan P) warning reported (All-head (λ named. EachWarningSpan P named.1) (name, warning) rest all)
      (warned s rest reported w (All-tail (λ named. EachWarningSpan P named.1) (name, warning) rest all))
  warned s _ reported (left {name = name} {warning = warning} {rest = rest} used w) all =
      warned s rest reported w (All-tail (λ named. EachWarningSpan P named.1) (name, warning) rest all)

  pub warning_positions : (s : Syntax) (reported : List GrammarWarning) → AreWarnings s reported → EachSpan P Q s → All (EachWarningSpan P) reported
  warning_positions s reported are each = warned s (possible_warnings s) reported are
      (All-append (λ named. EachWarningSpan P named.1) (map rule_warning s.rules) (map token_warning (zip s.tokens s.spans))
      (All-map (λ named. EachWarningSpan P named.1) rule_warning s.rules (λ k d within. located UnusedRule _ (each.rules k d within)))
      (All-map (λ named. EachWarningSpan P named.1) token_warning (zip s.tokens s.spans)
      (λ k d within. located UnusedToken _ (All-zip (λ _. Unit {0}) P s.tokens s.spans (λ _ _ _. tt) each.tokens k d within).1)))
