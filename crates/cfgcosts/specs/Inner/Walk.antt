-- Walks from a rule by chosen productions, from the last token of its first minimal sentence to the first token.
use Rattle.std.specs.Prelude.{◌≡◌, ℕ, ◌+◌, ◌*◌, ◌<◌, ◌≤◌, List, [], ◌∷◌, All, length}
use Rattle.derivation.specs.Grammar.{Grammar, Sym, Rule, HasProduction}
use Rattle.derivation.specs.Sentence.{cost_of}
use Rattle.derivation.specs.Costs.{Least}
use Rattle.cfgchoices.specs.FirstSentence.{FirstMinimal}
use Rattle.cfgchoices.specs.Splits.{Split}
use Rattle.cfgcosts.specs.DerivedBy.{DerivesBy, IsFree, OpensNoneFree, times}

-- the first minimal sentence of a rule: it has at most as many tokens as it costs, and none is the end token
pub record IsFirstSentence (g : Grammar) (cost : ℕ → ℕ) (r : ℕ) (w : List ℕ) : Type 0 where
  pub first : FirstMinimal (HasProduction g) cost r w
  pub short : length w ≤ cost_of cost w
  pub within : All (λ t. t + 1 < g.tokens) w

-- each production is counted as often as it is among the opened ones
pub record AreCountsOf (g : Grammar) (opened : ℕ → ℕ) (all : ℕ) (positions : List ℕ) : Type 0 where
  pub each : (p : ℕ) → p < length g.productions → opened p ≡ times p positions
  pub together : all ≡ length positions

-- a finished walk from the rule: it found the first minimal sentence, which the opened productions derive
pub record HasWalked (g : Grammar) (cost : ℕ → ℕ) (r : ℕ) (HasOpened : List ℕ → Type 0) (w : List ℕ) : Type 0 where
  pub found : IsFirstSentence g cost r w
  pub positions : List ℕ
  pub opened : HasOpened positions
  pub list : List Sym
  pub derived : DerivesBy g positions (Rule r ∷ []) list
  pub tokens : Split (IsFree g cost) list w
  pub few : length positions ≤ 1 + length w * g.rules
  pub free : OpensNoneFree g cost (λ p. times p positions)

-- or the walk ran out of memory
pub record HasStopped (g : Grammar) (cost : ℕ → ℕ) (r : ℕ) (HasOpened : List ℕ → Type 0) : Type 0 where
  pub positions : List ℕ
  pub opened : HasOpened positions
  pub few : (c : ℕ) → Least (HasProduction g) cost r c → length positions ≤ 1 + c * g.rules
  pub free : OpensNoneFree g cost (λ p. times p positions)
