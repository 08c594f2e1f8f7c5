use Rattle.derivation.specs.Grammar.{HasProduction}
use Rattle.cfgrammar.proofs.SentenceLaws.{first_begins}
use Rattle.cfgrammar.proofs.laws.sentences.first_tokens_begin_sentences.Goals as goal

pub returns : goal.returns
returns c = λ g. first_begins (HasProduction g)
