-- The spans of a grammar are those of its syntax, or (0,0).
use Rattle.std.proofs.Common.{ℕ, List, [], ◌∷◌, map, length, All, Option, Some, None, option_map, sym, subst, arith}
use Rattle.std.specs.List.{zip}
use Rattle.std.specs.Prelude.{IfSome}
use Rattle.std.specs.Str.{IsUtf8}
use Rattle.std.proofs.lemmas.List.Elements.{All-nil, All-cons, All-append, All-map}
use Rattle.std.proofs.lemmas.Str.{IsCharBoundary-start}
use Rattle.lemmas.proofs.Zips.{All-zip}
use Rattle.cfgbase.specs.declared.span.Span.{Span}
use Rattle.cfgwords.specs.TextSpans.{IsPiece}
use Rattle.cfgitems.specs.Syntax.{EachProductionSpan, EachSpan, Production, Syntax}
use Rattle.cfgast.specs.Check.{nowhere}
use Rattle.cfgerrors.specs.Errors.{StorageTooSmall, error_at}
use Rattle.cfgsyntax.specs.ErrorSpans.{EachErrorSpan, EachFaultSpan}
use Rattle.cfgkinds.specs.declared.kind.YaccKind.{YaccKind}
use Rattle.cfgerrors.specs.declared.error.YaccFault.{YaccFault}
use Rattle.cfgerrors.specs.declared.error.YaccFault.TheVariants as faults
use Rattle.cfgfaults.specs.FaultErrors.{IsTooSmall}
use Rattle.cfgnumbers.specs.Numbered.{implicit_of, numbered, numbered_by, added_rules, file_rule, added_productions, file_production, end_token, file_token}
use Rattle.cfgyacc.specs.GrammarSpans.{EachGrammarSpan}
use Rattle.cfgnumbers.proofs.Added.{All-added_rules, All-added_productions}

part_span : {A : Type 0} (P : Span → Type 0) (span : A → Span) (o : Option A) → IfSome o (λ x. P (span x)) → IfSome (option_map span o) P
part_span P span None here = tt
part_span P span (Some x) here = here

-- (0,0) is a span of any text
pub nowhere_located : (text : List ℕ) → IsUtf8 text → IsPiece text nowhere
nowhere_located text utf8 =
    let first = IsCharBoundary-start text utf8 in
    record { ordered = omega arith; begins_at = first; ends_at = first }

module _ (P Q : Span → Type 0) (added : P nowhere) where
  numbered_spans : (implicit : Option (List (List ℕ))) (s : Syntax) → EachSpan P Q s → EachGrammarSpan P Q (numbered_by implicit s)
  unfolding numbered_by
  numbered_spans implicit s each = record {
    rules = All-append (λ rule. P rule.span) (added_rules implicit (length s.productions)) (map file_rule s.rules)
        (All-added_rules (λ rule. P rule.span) (λ name productions. added) implicit (length s.productions))
        (All-map (λ rule. P rule.span) file_rule s.rules each.rules);
    tokens = All-append (λ token. IfSome token.span P) (map (file_token s) (zip s.tokens s.spans)) (end_token ∷ [])
        (All-map (λ token. IfSome token.span P) (file_token s) (zip s.tokens s.spans)
        (λ k d within. (All-zip (λ _. Unit {0}) P s.tokens s.spans (λ _ _ _. tt) each.tokens k d within).1))
        (All-cons (λ token. IfSome token.span P) end_token [] tt (All-nil (λ token. IfSome token.span P)));
    productions = All-append (λ production. P production.span) (map (file_production implicit s) pairs) (added_productions implicit s)
        (All-map (λ production. P production.span) (file_production implicit s) pairs (λ k d within. (held k d within).1.itself))
        (All-added_productions (λ production. P production.span) (λ rule symbols. added) implicit s);
    actions = All-append (λ production. IfSome production.action_span Q) (map (file_production implicit s) pairs) (added_productions implicit s)
        (All-map (λ production. IfSome production.action_span Q) (file_production implicit s) pairs
        (λ k d within. part_span Q (λ (action : List ℕ × Span). action.1) _ (held k d within).1.action))
        (All-added_productions (λ production. IfSome production.action_span Q) (λ rule symbols. tt) implicit s);
    settings = each.settings;
  }
    where
      pairs : List (ℕ × Production)
      pairs = zip s.production_rules s.productions

      held : All (λ pair. Unit {0} × EachProductionSpan P Q pair.1) pairs
      held = All-zip (λ _. Unit {0}) (EachProductionSpan P Q) s.production_rules s.productions (λ _ _ _. tt) each.productions

  pub grammar_spans : (kind : YaccKind) (s : Syntax) → EachSpan P Q s → EachGrammarSpan P Q (numbered kind s)
  unfolding numbered
  grammar_spans kind s each = numbered_spans (implicit_of kind s) s each

-- the error for a grammar that is too large
module _ (P : Span → Type 0) (added : P nowhere) where
  pub too_small_spans : (fault : YaccFault) → IsTooSmall fault → EachFaultSpan P fault
  too_small_spans faults.OutOfMemory reported = tt
  too_small_spans (faults.Errors list) reported =
      subst (All (EachErrorSpan P)) (sym reported)
      (All-cons (EachErrorSpan P) (error_at StorageTooSmall nowhere) []
      (record { some = omega arith; each = All-cons P nowhere [] added (All-nil P) }) (All-nil (EachErrorSpan P)))
