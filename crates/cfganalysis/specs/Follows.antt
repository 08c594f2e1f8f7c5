-- FOLLOW sets: the tokens that come right after rules.
use Rattle.std.specs.Prelude.{◌↔◌, ℕ}
use Rattle.derivation.specs.Grammar.{Grammar}
use Rattle.derivation.specs.Follow.{MayFollow}
use Rattle.cfgsets.specs.Table.{Table, IsTable, HasBit}

-- the sets contain exactly what derivations show
pub record AreFollows (g : Grammar) (x : Table) : Type 0 where
  pub fits : IsTable g.rules g.tokens x
  pub follow : (r t : ℕ) → (HasBit x r t ↔ MayFollow g r t)
