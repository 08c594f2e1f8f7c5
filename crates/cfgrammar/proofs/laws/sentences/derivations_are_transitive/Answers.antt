use Rattle.derivation.specs.Grammar.{HasProduction}
use Rattle.derivation.proofs.Concatenation.{derives_trans}
use Rattle.cfgrammar.proofs.laws.sentences.derivations_are_transitive.Goals as goal

pub returns : goal.returns
returns c = λ g x y z d e. derives_trans (HasProduction g) d e
