use Rattle.cfgchoices.proofs.Lengths.{sentence_length}
use Rattle.cfgcosts.proofs.laws.sentences_cost_their_length.Goals as goal

pub returns : goal.returns
returns c = sentence_length
