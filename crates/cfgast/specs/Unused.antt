-- Warnings about a grammar: unreachable rules and tokens.
use Rattle.std.specs.Prelude.{◌≡◌, ℕ, ◌+◌, Bool, false, List, [], ◌∷◌, ◌++◌, map, length, Contains, MatchBool, Some, slice_get, slice_index_or, bytes_eq}
use Rattle.std.specs.List.{zip}
use Rattle.std.specs.Map.{lookup}
use Rattle.search.specs.Reachable.{Reachable}
use Rattle.cfgbase.specs.declared.span.Span.{Span}
use Rattle.cfgwords.specs.FileWords.{Word}
use Rattle.cfgerrors.specs.Warnings.{GrammarWarning, warning_at}
use Rattle.cfgerrors.specs.declared.warning.YaccGrammarWarningKind.TheVariants.{UnusedRule, UnusedToken}
use Rattle.cfgitems.specs.Syntax.{Symbol, RuleSymbol, TokenSymbol, Production, Rule, Syntax}

-- the name of a rule, or of a token
pub data Name : Type 0 where
  RuleName : List ℕ → Name
  TokenName : List ℕ → Name

abbrev pub name_of : Symbol → Name
name_of (RuleSymbol word) = RuleName word.name
name_of (TokenSymbol word) = TokenName word.name

-- a production of the rule holds a symbol of this name
pub record Refers (s : Syntax) (rule : List ℕ) (name : Name) : Type 0 where
  pub head : Rule
  pub named : lookup (bytes_eq rule) s.rules ≡ Some head
  pub index : ℕ
  pub listed : Contains head.productions index
  pub production : Production
  pub there : slice_get s.productions index ≡ Some production
  pub holds : Contains (map name_of production.symbols) name

-- a rule leads to what its productions hold, and a token to nothing
abbrev pub Leads : Syntax → Name → Name → Type 0
Leads s (RuleName rule) name = Refers s rule name
Leads s (TokenName token) name = ⊥

-- the start rule's name
pub record IsStart (s : Syntax) (name : Name) : Type 0 where
  pub word : Word
  pub given : s.start ≡ Some word
  pub is : RuleName word.name ≡ name

-- the start rule, and whatever is reachable from it
abbrev pub IsReachable : Syntax → Name → Type 0
IsReachable s = Reachable (IsStart s) (Leads s)

abbrev pub entry_token : List ℕ × Span → Name
entry_token entry = TokenName entry.0

-- what an `%expect-unused` names, and implicit tokens
pub data Expected (s : Syntax) : Name → Type 0 where
  named : {name : Name} → Contains (map name_of s.expect_unused) name → Expected s name
  implicit : {table : List (List ℕ × Span)} {name : Name} → s.tables.implicit_tokens ≡ Some table
      → Contains (map entry_token table) name → Expected s name

-- neither reachable nor expected to be unused
abbrev pub IsUnused : Syntax → Name → Type 0
IsUnused s name = (IsReachable s name → ⊥) × (Expected s name → ⊥)

-- for each rule, and then for each token, whether it is unused
pub record AreUnused (s : Syntax) (unused : List Bool) : Type 0 where
  pub long : length unused ≡ length s.rules + length s.tokens
  pub rules : (n : ℕ) (rule : List ℕ × Rule) → slice_get s.rules n ≡ Some rule
      → MatchBool (slice_index_or unused n false) (IsUnused s (RuleName rule.0)) (IsUnused s (RuleName rule.0) → ⊥)
  pub tokens : (n : ℕ) (token : List ℕ) → slice_get s.tokens n ≡ Some token
      → MatchBool (slice_index_or unused (length s.rules + n) false) (IsUnused s (TokenName token)) (IsUnused s (TokenName token) → ⊥)

abbrev pub rule_warning : List ℕ × Rule → Name × GrammarWarning
rule_warning rule = (RuleName rule.0, warning_at UnusedRule rule.1.name.span)

abbrev pub token_warning : List ℕ × Span → Name × GrammarWarning
token_warning token = (TokenName token.0, warning_at UnusedToken token.1)

-- the warnings if everything were unused: about the rules, then about the tokens
abbrev pub possible_warnings : Syntax → List (Name × GrammarWarning)
possible_warnings s = map rule_warning s.rules ++ map token_warning (zip s.tokens s.spans)

-- those of the warnings that are about something unused, in order
pub data Warned (s : Syntax) : List (Name × GrammarWarning) → List GrammarWarning → Type 0 where
  none : Warned s [] []
  taken : {name : Name} {warning : GrammarWarning} {rest : List (Name × GrammarWarning)} {warnings : List GrammarWarning}
      → IsUnused s name → Warned s rest warnings → Warned s ((name, warning) ∷ rest) (warning ∷ warnings)
  left : {name : Name} {warning : GrammarWarning} {rest : List (Name × GrammarWarning)} {warnings : List GrammarWarning}
      → (IsUnused s name → ⊥) → Warned s rest warnings → Warned s ((name, warning) ∷ rest) warnings

-- the warnings of a grammar
abbrev pub AreWarnings : Syntax → List GrammarWarning → Type 0
AreWarnings s warnings = Warned s (possible_warnings s) warnings
