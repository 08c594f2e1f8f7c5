use Rattle.std.proofs.Common.{◌∙◌, ap, false, get_or}
use Rattle.std.proofs.lemmas.Option.{unwrap_or-slice_get}
use Rattle.std.specs.Option.{unwrap_or}
use Rattle.cfganalysis.proofs.firsts.YaccFirsts.is_empty.Goals as goal

pub returns : goal.returns
returns g c = c.unwrap_or.ensures ∙ ap (λ o. unwrap_or o false) c.get.ensures ∙ unwrap_or-slice_get c.self.inside.nullable c.args.rule false
    ∙ ap (λ x. get_or x.nullable c.args.rule false) c.self.view_is
