use Rattle.std.proofs.Common.{◌≡◌, ℕ, Some, Contains, map, take}
use Rattle.derivation.specs.Grammar.{Rule}
use Rattle.cfgtables.specs.NumberedSymbols.{sym_of}
use Rattle.derivation.specs.CostLists.{rule_cost}
use Rattle.cfgchoices.proofs.kinds.first_of_cost.Given as goal

abbrev pub invariant-loop-symbol : goal.invariant-loop-symbol
invariant-loop-symbol g l = (q : ℕ) → Contains (take l.symbol-index (map (sym_of g.S.Storage.number) l.symbols)) (Rule q) → rule_cost l.least q ≡ Some l.cost → ⊥
