use Rattle.std.proofs.Common.{codes, ap, ◌∙◌}
use Rattle.std.proofs.lemmas.Result.{IfOk-weaker}
use Rattle.serde_json.specs.Data.{Data, member, no_members, object}
use Rattle.serde_json.proofs.Views.{view-Object}
use Rattle.cfgjson.proofs.Members.{location_made}
use Rattle.cfgjson.proofs.sarif.location.Goals as goal

pub returns : goal.returns
returns c =
    let place = view-Object c.put_place.new.place ∙ ap object (rw c.new-place.ensures.empty at c.in_ok-put_place.ensures) in
    IfOk-weaker c.object_with.result _ _
    (λ made is. is ∙ ap (λ (d : Data). object (member (codes "physicalLocation") d no_members)) place ∙ location_made _ _)
    c.object_with.ensures
