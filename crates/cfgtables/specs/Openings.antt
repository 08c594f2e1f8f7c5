-- Productions by number, and how often each was opened.
use Rattle.std.specs.Prelude.{◌≡◌, ◌≢◌, ◌↔◌, ℕ, ◌+◌, ◌*◌, ◌<◌, ◌≤◌, List, [], All, Contains, length, slice_index_or}
use Rattle.derivation.specs.Grammar.{Grammar, Production}

abbrev pub nth_production : Grammar → ℕ → Production
nth_production g p = slice_index_or g.productions p (record { rule = 0; symbols = [] })

-- the numbers of a rule's productions
pub record ArePositionsOf (g : Grammar) (rule : ℕ) (positions : List ℕ) : Type 0 where
  pub within : All (λ p. p < length g.productions) positions
  pub listed : (p : ℕ) → p < length g.productions → (Contains positions p ↔ ((nth_production g p).rule ≡ rule))

-- a grammar, how often each of its productions was opened, and how often in total
pub record Counts : Type 0 where
  pub grammar : Grammar
  pub opened : List ℕ
  pub opened_all : ℕ

-- production p was opened once more, and nothing else changed
pub record OpensOne (p : ℕ) (content content' : Grammar) (opened opened' : ℕ → ℕ) (all all' : ℕ) : Type 0 where
  pub stays : content' ≡ content
  pub more : opened' p ≡ opened p + 1
  pub others : (q : ℕ) → q ≢ p → opened' q ≡ opened q
  pub together : all' ≡ all + 1

-- a number of openings that is enough for each production
abbrev pub most_openings : Grammar → ℕ
most_openings g = g.rules * (g.tokens + 1) + 1

-- and for all of them in total
abbrev pub most_openings_all : Grammar → ℕ
most_openings_all g = length g.productions * most_openings g

-- each production was opened at most this often
pub record AreOpenedAtMost (most : ℕ) (g : Grammar) (opened : ℕ → ℕ) (all : ℕ) : Type 0 where
  pub each : (p : ℕ) → p < length g.productions → opened p ≤ most
  pub together : all ≤ length g.productions * most
