use Rattle.std.proofs.lemmas.Bool.Decides.{Decides-at}
use Rattle.cfgkinds.specs.Values.{setting_view}
use Rattle.cfgkinds.proofs.SameLemmas.{same_setting_iff}
use Rattle.cfgkinds.proofs.same.SettingPartialEq.eq.Goals as goal

pub returns-clause-same : goal.returns-clause-same
returns-clause-same g c is = Decides-at _ _ c.is_same.ensures (same_setting_iff g.T.PartialEq.eq is (setting_view c.args.self.now) (setting_view c.args.other.now))
