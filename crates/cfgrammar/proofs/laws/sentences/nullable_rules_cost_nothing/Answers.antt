use Rattle.cfgrammar.proofs.SentenceLaws.{free_if_nullable}
use Rattle.cfgrammar.proofs.laws.sentences.nullable_rules_cost_nothing.Goals as goal

pub returns : goal.returns
returns c = free_if_nullable
