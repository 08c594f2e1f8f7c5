use Rattle.cfgrammar.proofs.SentenceLaws.{contains_either}
use Rattle.cfgrammar.proofs.laws.sentences.lists_contain_their_elements.Goals as goal

pub returns-clause-numbers : goal.returns-clause-numbers
returns-clause-numbers c = contains_either

pub returns-clause-symbols : goal.returns-clause-symbols
returns-clause-symbols c = contains_either

pub returns-clause-productions : goal.returns-clause-productions
returns-clause-productions c = contains_either
