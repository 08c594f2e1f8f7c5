-- The names and the places of rules, tokens and productions, as findings show them.
use Rattle.std.specs.Prelude.{ℕ, List, ◌++◌, codes, slice_get, unwrap_or}
use Rattle.std.specs.Option.{option_map_or}
use Rattle.cfgrammar.specs.Accessors.{production_part, rule_part, sym_name}
use Rattle.cfgrammar.specs.Check.{nowhere}
use Rattle.cfgrammar.specs.Grammar.{Rule, Token}
use Rattle.cfgrammar.specs.Numbered.{Numbered}
use Rattle.cfgrammar.specs.Span.{Span}

-- the name in quotes
abbrev pub quoted : List ℕ → List ℕ
quoted name = codes "'" ++ (name ++ codes "'")

module _ (g : Numbered) where
  abbrev pub rule_name : ℕ → List ℕ
  rule_name r = sym_name g (Rule r)

  abbrev pub rule_span : ℕ → Span
  rule_span r = unwrap_or (rule_part (λ rule. rule.span) g r) nowhere

  abbrev pub token_name : ℕ → List ℕ
  token_name t = sym_name g (Token t)

  abbrev pub token_span : ℕ → Span
  token_span t = option_map_or (λ token. unwrap_or token.span nowhere) (slice_get g.tokens t) nowhere

  abbrev pub production_span : ℕ → Span
  production_span p = unwrap_or (production_part (λ production. production.span) g p) nowhere
