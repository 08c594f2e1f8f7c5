-- What is copied of a symbol, and what a hash of it is fed, given both for a stored number.
use Rattle.std.specs.Prelude.{ℕ, List, ◌++◌, pos}
use Rattle.std.specs.Hash as fed
use Rattle.cfgindex.specs.declared.idxnewtype.Symbol.{Symbol}
use Rattle.cfgindex.specs.declared.idxnewtype.Symbol.TheVariants.{Rule, Token}

module _ {T : Type 0} where
  -- both are rules or both are tokens, and the number of the second is a clone of that of the first
  abbrev pub IsSymbolClone : (T → T → Type 0) → Symbol T → Symbol T → Type 0
  IsSymbolClone is_clone (Rule a) (Rule b) = is_clone a.0 b.0
  IsSymbolClone is_clone (Token a) (Token b) = is_clone a.0 b.0
  IsSymbolClone is_clone a b = ⊥

  -- the number of a symbol, as it is stored
  abbrev pub stored : Symbol T → T
  stored (Rule a) = a.0
  stored (Token a) = a.0

  -- 0 for a rule and 1 for a token, and then what its number feeds
  abbrev pub symbol_fed : (T → List (List ℕ)) → Symbol T → List (List ℕ)
  symbol_fed number_fed (Rule a) = fed.isize (pos 0) ++ number_fed a.0
  symbol_fed number_fed (Token a) = fed.isize (pos 1) ++ number_fed a.0
