-- What is true of every grammar: the invariant of its type.
use Rattle.std.specs.Prelude.{◌≡◌, ◌↔◌, ◌==◌, nat_eq, ℕ, ◌+◌, ◌<◌, if◌then◌else◌, List, [], ◌∷◌, map, length, count_by, All, Some, None, IfSome}
use Rattle.std.specs.List.{IsDistinct, filter_map}
use Rattle.std.specs.Str.{bytes_eq}
use Rattle.derivation.specs.Grammar.{IsGrammar}
use Rattle.cfgnumbers.specs.Fits.{Fits}
use Rattle.cfgnumbers.specs.Numbered.{Numbered, core}
use Rattle.cfgnumbers.specs.Accessors.{production_part, rule_part, token_part}

pub record IsWhole (g : Numbered) : Type 0 where
  -- rule 0 is the start rule, and has one production
  pub start_rule : rule_part (λ rule. rule.productions) g 0 ≡ Some (g.start_production ∷ [])
  pub start_production : production_part (λ p. p.rule) g g.start_production ≡ Some 0
  -- the last token, and no other, is the end token
  pub end_token : (t : ℕ) → (token_part (λ token. token.name) g t ≡ Some None) ↔ (t + 1 ≡ length g.tokens)
  -- all indices refer to something that exists, and no production contains the end token
  pub grammar : IsGrammar (core g)
  -- the rule for implicit tokens exists, if the grammar refers to one
  pub implicit_rule : IfSome g.implicit_rule (λ r. r < length g.rules)
  pub lists : All (λ rule. All (λ p. p < length g.productions) rule.productions) g.rules

-- no two rules have the same name, and no two tokens with a name do
pub record HasDistinctNames (g : Numbered) : Type 0 where
  pub rules : IsDistinct bytes_eq (map (λ rule. rule.name) g.rules)
  pub tokens : IsDistinct bytes_eq (filter_map (λ token. token.name) g.tokens)

-- each production is in the list of its own rule exactly once, and in no other
abbrev pub ListsEachOnce : Numbered → Type 0
ListsEachOnce g = (p owner r : ℕ) (listed : List ℕ) → production_part (λ x. x.rule) g p ≡ Some owner
    → rule_part (λ x. x.productions) g r ≡ Some listed → count_by (nat_eq p) listed ≡ (if r == owner then 1 else 0)

-- A grammar in numbers, for an index type with this greatest number.
pub record IsWellNumbered (max : ℕ) (g : Numbered) : Type 0 where
  pub whole : IsWhole g
  pub counted : Fits max g
  pub names : HasDistinctNames g
  pub listed_once : ListsEachOnce g
