-- What is true of each span of a grammar, and of each span in what a constructor returns.
use Rattle.std.specs.Prelude.{All, IfSome, Result, Ok, Err}
use Rattle.cfgbase.specs.declared.span.Span.{Span}
use Rattle.cfgitems.specs.Syntax.{EachSettingSpan}
use Rattle.cfgsyntax.specs.ErrorSpans.{EachErrorSpan}
use Rattle.cfgerrors.specs.declared.error.YaccFault.{YaccFault}
use Rattle.cfgerrors.specs.declared.error.YaccFault.TheVariants as faults
use Rattle.cfgnumbers.specs.Numbered.{Numbered}

-- Q is for the spans of actions.
pub record EachGrammarSpan (P Q : Span → Type 0) (g : Numbered) : Type 0 where
  pub rules : All (λ rule. P rule.span) g.rules
  pub tokens : All (λ token. IfSome token.span P) g.tokens
  pub productions : All (λ production. P production.span) g.productions
  pub actions : All (λ production. IfSome production.action_span Q) g.productions
  pub settings : EachSettingSpan P g.settings

-- Running out of memory has no spans.
abbrev pub EachAnswerSpan : (P Q : Span → Type 0) → Result Numbered YaccFault → Type 0
EachAnswerSpan P Q (Ok grammar) = EachGrammarSpan P Q grammar
EachAnswerSpan P Q (Err faults.OutOfMemory) = Unit {0}
EachAnswerSpan P Q (Err (faults.Errors reported)) = All (EachErrorSpan P) reported.items
