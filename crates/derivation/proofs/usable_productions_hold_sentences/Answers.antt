use Rattle.derivation.specs.Grammar.{HasProduction}
use Rattle.derivation.proofs.Uses.{sentences_in_used, used_by_sentence}
use Rattle.derivation.proofs.usable_productions_hold_sentences.Goals as goal

pub returns : goal.returns
returns c = λ g r symbols has. (sentences_in_used (HasProduction g) r symbols, used_by_sentence (HasProduction g) r symbols has)
