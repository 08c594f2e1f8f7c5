use Rattle.derivation.specs.Grammar.{HasProduction}
use Rattle.derivation.proofs.Firsts.{closed_empty, closed_first}
use Rattle.derivation.proofs.closed_sets_hold_first.Goals as goal

pub returns-clause-empty : goal.returns-clause-empty
returns-clause-empty c = λ g empty first closed r h. closed_empty (HasProduction g) _ _ closed r h

pub returns-clause-first : goal.returns-clause-first
returns-clause-first c = λ g empty first closed r t h. closed_first (HasProduction g) _ _ closed r t h
