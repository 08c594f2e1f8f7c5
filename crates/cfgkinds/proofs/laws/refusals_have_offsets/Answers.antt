use Rattle.cfgkinds.proofs.ValueKinds.{refusal_somewhere}
use Rattle.cfgkinds.proofs.laws.refusals_have_offsets.Goals as goal

pub returns : goal.returns
returns g c = refusal_somewhere
