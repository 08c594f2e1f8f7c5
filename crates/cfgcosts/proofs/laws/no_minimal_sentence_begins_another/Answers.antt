use Rattle.std.specs.Prelude.{slice_index}
use Rattle.derivation.specs.Grammar.{HasProduction}
use Rattle.cfgchoices.proofs.FirstSentences.{begins_none}
use Rattle.cfgchoices.proofs.Lengths.{productions_paid}
use Rattle.cfgcosts.proofs.laws.no_minimal_sentence_begins_another.Goals as goal

pub returns : goal.returns
returns c g costs grammar tokens positive r w rest m k =
    begins_none (HasProduction g) (slice_index costs) (productions_paid g costs grammar tokens positive) r w rest m k
