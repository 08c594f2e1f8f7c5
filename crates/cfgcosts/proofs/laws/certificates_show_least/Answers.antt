use Rattle.cfgleast.proofs.Certified.{certified_least}
use Rattle.cfgcosts.proofs.laws.certificates_show_least.Goals as goal

pub returns : goal.returns
returns c = certified_least
