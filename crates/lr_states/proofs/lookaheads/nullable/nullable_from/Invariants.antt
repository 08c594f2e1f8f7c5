use Rattle.cfgrammar.specs.Numbered.{core}
use Rattle.cfgrammar.specs.Openings.{nth_production}
use Rattle.lr_states.specs.Inner.Edges.{IsNullableFrom}
use Rattle.lr_states.proofs.Growing.{AreUpTo}
use Rattle.lr_states.proofs.lookaheads.nullable.nullable_from.Given as goal

-- the indices of the productions so far are there
abbrev pub invariant-loop-production : goal.invariant-loop-production
invariant-loop-production l = AreUpTo (λ p. IsNullableFrom (core l.grammar) (nth_production (core l.grammar) p).symbols) 0 l.production l.from.items
