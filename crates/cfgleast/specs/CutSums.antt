-- Sums of costs, cut down to 65536, which is too large to return. `settled` says which rules are settled, and at which cost.
use Rattle.std.specs.Prelude.{◌≡◌, ℕ, ◌<◌, min, List, Option, Some, None, length, take, slice_index_or}
use Rattle.derivation.specs.Grammar.{Sym, Rule}
use Rattle.derivation.specs.Sums.{sum_of, symbol_cost}
use Rattle.cfgleast.specs.declared.partial.Partial.{Partial}

module _ (cost : ℕ → ℕ) (settled : ℕ → Option ℕ) where
  -- what the symbols cost in total, cut down to 65536
  pub record IsCutSum (symbols : List Sym) (sum : ℕ) : Type 0 where
    pub total : ℕ
    pub is : sum_of (symbol_cost cost settled) symbols ≡ Some total
    pub cut : sum ≡ min total 65536

  -- after the symbols that were summed comes a rule that isn't settled
  pub record StopsAt (symbols : List Sym) (r : ℕ) (x : Partial) : Type 0 where
    pub taken : x.taken < length symbols
    pub symbol : slice_index_or symbols x.taken (Rule r) ≡ Rule r
    pub sum : IsCutSum (take x.taken symbols) x.sum
    pub unset : settled r ≡ None
