-- What the calls that write to a tree make of its syntax.
use Rattle.std.specs.Prelude.{◌≡◌, ℕ, ◌<◌, List, [], ◌∷◌, ◌++◌, All, map, length, Some, true, if◌then◌else◌}
use Rattle.std.specs.Str.{bytes_eq}
use Rattle.cfgwords.specs.FileWords.{Word}
use Rattle.cfgitems.specs.Items.{RuleHead}
use Rattle.cfgitems.specs.Syntax.{Syntax, Rule, Production, head_name, index_of}
use Rattle.cfgitems.specs.Building.{has_rule, new_rule, listed}

-- a rule of this name loses its productions, and gets the head's span and type
abbrev pub restated : RuleHead → List ℕ × Rule → List ℕ × Rule
restated head rule = if bytes_eq (head_name head) rule.0 then (rule.0, (new_rule head).1) else rule

-- a rule with no production yet: at the index of a rule with this name, if there is one, and otherwise after all others
abbrev pub rule_added : Syntax → RuleHead → Syntax
rule_added s head =
    record s { rules = if has_rule (head_name head) s.rules then map (restated head) s.rules else s.rules ++ new_rule head ∷ [] }

-- one more production, which the rule of the name lists
abbrev pub production_added : Syntax → List ℕ → Production → Syntax
production_added s name production = record s {
  rules = map (listed name (length s.productions)) s.rules;
  productions = s.productions ++ production ∷ [];
  production_rules = s.production_rules ++ index_of name (map (λ rule. rule.0) s.rules) ∷ [];
}

-- with other programs
abbrev pub programs_set : Syntax → List ℕ → Syntax
programs_set s text = record s { settings = record s.settings { programs = Some text } }

-- with another start
abbrev pub started_at : Syntax → Word → Syntax
started_at s word = record s { start = Some word }

-- What holds of every tree, also of one that was written to: each rule is under its name and lists existing productions, each production is
-- of an existing rule, each token has a span, and each directive is the index of a token.
pub record IsTree (s : Syntax) : Type 0 where
  pub rules_named : All (λ rule. rule.0 ≡ rule.1.name.name) s.rules
  pub productions_within : All (λ rule. All (λ i. i < length s.productions) rule.1.productions) s.rules
  pub production_rules_as_long : length s.production_rules ≡ length s.productions
  pub production_rules_within : All (λ r. r < length s.rules) s.production_rules
  pub spans_as_long : length s.spans ≡ length s.tokens
  pub directives_within : All (λ i. i < length s.tokens) s.token_directives

-- adding a production of an existing rule to a tree gives a tree
abbrev pub ProductionsKeepTrees : Type 0
ProductionsKeepTrees = (s : Syntax) (name : List ℕ) (production : Production) → has_rule name s.rules ≡ true → IsTree s → IsTree (production_added s name production)
