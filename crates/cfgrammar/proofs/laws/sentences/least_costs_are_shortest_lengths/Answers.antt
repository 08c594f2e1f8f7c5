use Rattle.cfgrammar.proofs.SentenceLaws.{cost_is_length, least_is_shortest}
use Rattle.cfgrammar.proofs.laws.sentences.least_costs_are_shortest_lengths.Goals as goal

pub returns-clause-length : goal.returns-clause-length
returns-clause-length c = cost_is_length

pub returns-clause-least : goal.returns-clause-least
returns-clause-least c = least_is_shortest
