use Rattle.std.specs.Prelude.{slice_index}
use Rattle.derivation.specs.Grammar.{HasProduction}
use Rattle.cfgchoices.proofs.Lengths.{productions_paid}
use Rattle.cfgchoices.proofs.Chains.{made_by_base_minimal, minimal_made_by_base}
use Rattle.cfgcosts.proofs.laws.minimal_sentences_follow_chains.Goals as goal

pub returns : goal.returns
returns c g costs grammar tokens positive r w =
    let paid = productions_paid g costs grammar tokens positive in (
      minimal_made_by_base (HasProduction g) (slice_index costs) paid r w,
      made_by_base_minimal (HasProduction g) (slice_index costs) paid r w,
    )
