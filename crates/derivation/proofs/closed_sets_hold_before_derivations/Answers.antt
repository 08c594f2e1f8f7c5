use Rattle.derivation.specs.Grammar.{HasProduction}
use Rattle.derivation.proofs.Firsts.{begins_derived, nullable_derived}
use Rattle.derivation.proofs.closed_sets_hold_before_derivations.Goals as goal

pub returns-clause-empty : goal.returns-clause-empty
returns-clause-empty c = λ g empty first closed a b d h. nullable_derived (HasProduction g) _ _ closed d h

pub returns-clause-first : goal.returns-clause-first
returns-clause-first c = λ g empty first closed a b t d h. begins_derived (HasProduction g) _ _ closed t d h
