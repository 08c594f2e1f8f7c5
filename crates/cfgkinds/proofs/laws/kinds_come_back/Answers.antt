use Rattle.cfgkinds.proofs.ValueKinds.{kind_back}
use Rattle.cfgkinds.proofs.laws.kinds_come_back.Goals as goal

pub returns : goal.returns
returns c = kind_back
