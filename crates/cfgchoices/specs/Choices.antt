-- The sentence that the chosen productions give for a rule.
use Rattle.std.specs.Prelude.{◌≡◌, ℕ, List, [], ◌∷◌, ◌++◌, Some}
use Rattle.derivation.specs.Grammar.{Sym, Rule, Token}
use Rattle.cfgtables.specs.Openings.{nth_production}
use Rattle.cfgleast.specs.Generator.{CostTables, cost_answer, choice_answer}

-- What the choices give for a list of symbols: for a token the token, for a rule of cost 0 nothing, and for another rule what they give for
-- the symbols of its chosen production.
pub data ChoicesGive (x : CostTables) : List Sym → List ℕ → Type 0 where
  empty : ChoicesGive x [] []
  token : {t : ℕ} {a : List Sym} {w : List ℕ} → ChoicesGive x a w → ChoicesGive x (Token t ∷ a) (t ∷ w)
  free : {r : ℕ} {a : List Sym} {w : List ℕ} → cost_answer x r ≡ Some 0 → ChoicesGive x a w → ChoicesGive x (Rule r ∷ a) w
  chosen : {r p m : ℕ} {a : List Sym} {u w v : List ℕ} → (cost_answer x r ≡ Some 0 → ⊥) → choice_answer x r ≡ Some (p, m)
      → ChoicesGive x (nth_production x.grammar p).symbols u → ChoicesGive x a w → v ≡ u ++ w → ChoicesGive x (Rule r ∷ a) v
