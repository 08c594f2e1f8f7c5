-- The lines that print FIRST sets.
use Rattle.std.specs.Prelude.{◌≡◌, ◌↔◌, ℕ, List, [], ◌++◌, Bool, IsTrue, if◌then◌else◌, codes}
use Rattle.std.specs.List.{flat_map, enumerate_from}
use Rattle.cfgrammar.specs.Grammar.{HasProduction}
use Rattle.cfgrammar.specs.First.{First, Nullable}
use Rattle.cfgrammar.specs.Numbered.{Numbered, NumberedRule, core}
use Rattle.cfgtool.specs.TokenSets.{set_word}

-- `begins` says of a rule and a token, and `empty` of a rule, exactly what derivations show
pub record ReportsFirst (g : Numbered) (begins : ℕ → ℕ → Bool) (empty : ℕ → Bool) : Type 0 where
  pub begins_is : (r t : ℕ) → (IsTrue (begins r t) ↔ First (HasProduction (core g)) r t)
  pub empty_is : (r : ℕ) → (IsTrue (empty r) ↔ Nullable (HasProduction (core g)) r)

abbrev pub empty_word : Bool → List ℕ
empty_word empty = if empty then codes " %empty" else []

-- A rule's line: its name and a colon, the tokens that it begins with in the order of their indices, and whether it is nullable. No rule
-- begins with the end token.
abbrev pub first_line : Numbered → (ℕ → ℕ → Bool) → (ℕ → Bool) → ℕ × NumberedRule → List ℕ
first_line g begins empty rule =
    rule.1.name ++ (codes ":" ++ (flat_map (set_word [] (begins rule.0)) (enumerate_from 0 g.tokens) ++ (empty_word (empty rule.0) ++ codes "\n")))

abbrev pub first_lines : Numbered → (ℕ → ℕ → Bool) → (ℕ → Bool) → List ℕ
first_lines g begins empty = flat_map (first_line g begins empty) (enumerate_from 0 g.rules)

-- the lines of a grammar's rules, in the order of their indices
abbrev pub AreFirstLines : Numbered → List ℕ → Type 0
AreFirstLines g lines = (begins : ℕ → ℕ → Bool) × (empty : ℕ → Bool) × ReportsFirst g begins empty × (lines ≡ first_lines g begins empty)
