use Rattle.derivation.specs.Grammar.{HasProduction}
use Rattle.derivation.proofs.Concatenation.{derives_left, derives_right}
use Rattle.derivation.proofs.derivations_hold_inside.Goals as goal

pub returns : goal.returns
returns c = λ g before a b after d. derives_left (HasProduction g) before (derives_right (HasProduction g) after d)
