use Rattle.std.proofs.Common.{◌∙◌, ◌&&◌, ap}
use Rattle.cfgkinds.specs.Values.{namespaced_view}
use Rattle.cfgkinds.specs.SameValues.{same_located}
use Rattle.cfgkinds.proofs.SameLemmas.{same_both, same_namespaces}
use Rattle.cfgkinds.proofs.same.is_same_name.Goals as goal

pub returns : goal.returns
returns g c =
    let eq = g.T.PartialEq.eq in
    let name = namespaced_view c.args.name.now in
    let other = namespaced_view c.args.other.now in
    c.eq.ensures
    ∙ ap (λ b. b && same_located eq name.member other.member) (same_namespaces eq c.args.name.now.namespace c.args.other.now.namespace)
    ∙ same_both eq name other
