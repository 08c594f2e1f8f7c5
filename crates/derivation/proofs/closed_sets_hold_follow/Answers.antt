use Rattle.std.proofs.Common.{inl, inr}
use Rattle.derivation.specs.Grammar.{HasProduction}
use Rattle.derivation.proofs.Follows.{closed_follow, closed_end}
use Rattle.derivation.proofs.closed_sets_hold_follow.Goals as goal

pub returns : goal.returns
returns c = λ g empty first follow closed covers end r t h. elim h [
  | inl f ↦ closed_follow (HasProduction g) _ _ _ closed covers r t f
  | inr e ↦ closed_end (HasProduction g) _ _ _ closed covers r t e.1 (end t e.0)
]
