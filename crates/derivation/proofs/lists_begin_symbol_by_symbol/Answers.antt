use Rattle.derivation.specs.Grammar.{HasProduction}
use Rattle.std.proofs.Common.{refl}
use Rattle.derivation.proofs.Firsts.{begins_derived, begins_derives, derived_closed, nullable_derived, nullable_derives}
use Rattle.derivation.proofs.lists_begin_symbol_by_symbol.Goals as goal

pub returns-clause-nullable : goal.returns-clause-nullable
returns-clause-nullable c = λ g a. let P = HasProduction g in
    (nullable_derives P a, λ d. nullable_derived P _ _ (derived_closed P) d tt)

pub returns-clause-begins : goal.returns-clause-begins
returns-clause-begins c = λ g a t. let P = HasProduction g in
    (begins_derives P a t, λ d. begins_derived P _ _ (derived_closed P) t d.1 refl)
