-- What holds of the syntax of any list of items.
use Rattle.std.specs.Prelude.{◌≡◌, ℕ, ◌<◌, ◌==◌, List, map, length, All, IfSome, slice_get, Some, true}
use Rattle.std.specs.List.{IsDistinct, list_any}
use Rattle.std.specs.Str.{bytes_eq}
use Rattle.lemmas.specs.Lists.{positions}
use Rattle.cfgitems.specs.Syntax.{Rule, Syntax}

pub record IsWellFormed (s : Syntax) : Type 0 where
  -- each rule is under its name, and no two rules or two tokens share a name
  pub rules_named : All (λ rule. rule.0 ≡ rule.1.name.name) s.rules
  pub rules_distinct : IsDistinct bytes_eq (map (λ rule. rule.0) s.rules)
  pub tokens_distinct : IsDistinct bytes_eq s.tokens
  -- each production is of an existing rule, and a rule lists its own productions, in order, and no others
  pub production_rules_as_long : length s.production_rules ≡ length s.productions
  pub production_rules_within : All (λ r. r < length s.rules) s.production_rules
  pub productions_listed : (r : ℕ) (rule : List ℕ × Rule) → slice_get s.rules r ≡ Some rule → rule.1.productions ≡ positions (λ other. r == other) s.production_rules
  -- each token has a span, and each directive is the index of a token
  pub spans_as_long : length s.spans ≡ length s.tokens
  pub directives_within : All (λ i. i < length s.tokens) s.token_directives
  -- each implicit token is a token
  pub implicit_are_tokens : IfSome s.tables.implicit_tokens (λ table. All (λ entry. list_any (bytes_eq entry.0) s.tokens ≡ true) table)
