-- The kind of a production, as its symbols and their costs determine it.
use Rattle.std.specs.Prelude.{◌≡◌, ℕ, List, Option, Some, Contains}
use Rattle.derivation.specs.Grammar.{Sym, Rule}
use Rattle.derivation.specs.Sums.{sum_of, symbol_cost}
use Rattle.cfgchoices.specs.declared.kinds.Kind.{Kind}
use Rattle.cfgchoices.specs.declared.kinds.Kind.TheVariants.{Suboptimal, Base, Chain}

-- the kind of a production with these symbols, whose rule has this cost
abbrev pub IsSequenceKind : {S : Type 0} → (S → ℕ) → (ℕ → ℕ) → (ℕ → Option ℕ) → ℕ → List Sym → Kind S → Type 0
IsSequenceKind number cost settled c symbols Suboptimal = sum_of (symbol_cost cost settled) symbols ≡ Some c → ⊥
IsSequenceKind number cost settled c symbols Base = (sum_of (symbol_cost cost settled) symbols ≡ Some c)
    × ((q : ℕ) → Contains symbols (Rule q) → settled q ≡ Some c → ⊥)
IsSequenceKind number cost settled c symbols (Chain r) = (sum_of (symbol_cost cost settled) symbols ≡ Some c)
    × Contains symbols (Rule (number r.0)) × (settled (number r.0) ≡ Some c)
