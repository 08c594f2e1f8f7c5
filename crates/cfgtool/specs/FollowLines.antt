-- The lines that print FOLLOW sets.
use Rattle.std.specs.Prelude.{◌≡◌, ◌↔◌, ℕ, List, ◌++◌, Bool, IsTrue, codes}
use Rattle.std.specs.List.{flat_map, enumerate_from}
use Rattle.cfgrammar.specs.Follow.{MayFollow}
use Rattle.cfgrammar.specs.Numbered.{Numbered, NumberedRule, core}
use Rattle.cfgtool.specs.TokenSets.{set_word}

-- `follows` says of a rule and a token exactly what derivations show
pub record ReportsFollow (g : Numbered) (follows : ℕ → ℕ → Bool) : Type 0 where
  pub follows_is : (r t : ℕ) → (IsTrue (follows r t) ↔ MayFollow (core g) r t)

-- a rule's line: its name and a colon, and the tokens that follow it in the order of their indices
abbrev pub follow_line : Numbered → (ℕ → ℕ → Bool) → ℕ × NumberedRule → List ℕ
follow_line g follows rule =
    rule.1.name ++ (codes ":" ++ (flat_map (set_word (codes " %end") (follows rule.0)) (enumerate_from 0 g.tokens) ++ codes "\n"))

abbrev pub follow_lines : Numbered → (ℕ → ℕ → Bool) → List ℕ
follow_lines g follows = flat_map (follow_line g follows) (enumerate_from 0 g.rules)

-- the lines of a grammar's rules, in the order of their indices
abbrev pub AreFollowLines : Numbered → List ℕ → Type 0
AreFollowLines g lines = (follows : ℕ → ℕ → Bool) × ReportsFollow g follows × (lines ≡ follow_lines g follows)
