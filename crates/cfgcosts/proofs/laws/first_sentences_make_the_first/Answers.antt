use Rattle.std.specs.Prelude.{slice_index}
use Rattle.derivation.specs.Grammar.{HasProduction}
use Rattle.cfgchoices.proofs.FirstSentences.{first_of_sequence}
use Rattle.cfgchoices.proofs.Lengths.{productions_paid}
use Rattle.cfgcosts.proofs.laws.first_sentences_make_the_first.Goals as goal

pub returns : goal.returns
returns c g costs grammar tokens positive sequence w v s k g' =
    first_of_sequence (HasProduction g) (slice_index costs) (productions_paid g costs grammar tokens positive) s k g'
