use Rattle.std.proofs.Common.{refl}
use Rattle.derivation.specs.Grammar.{HasProduction}
use Rattle.derivation.proofs.Concatenation.{derives_both}
use Rattle.derivation.proofs.Parts.{in_parts}
use Rattle.derivation.proofs.concatenations_derive_in_parts.Goals as goal

pub returns-clause-parts : goal.returns-clause-parts
returns-clause-parts c = λ g a b e d. in_parts (HasProduction g) a b refl d

pub returns-clause-whole : goal.returns-clause-whole
returns-clause-whole c = λ g a b x y d e. derives_both (HasProduction g) x y d e
