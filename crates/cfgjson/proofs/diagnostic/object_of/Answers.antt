use Rattle.std.proofs.Common.{◌∙◌, ap}
use Rattle.serde_json.specs.Data.{object}
use Rattle.serde_json.proofs.Views.{view-Object}
use Rattle.cfgjson.proofs.Members.{diagnostic_made}
use Rattle.cfgjson.proofs.diagnostic.object_of.Goals as goal

pub returns : goal.returns
returns c = view-Object c.put_members.new.members
    ∙ ap object (rw c.new-members.ensures.empty at c.in_ok-put_members.ensures)
    ∙ diagnostic_made c.args.name.now c.args.positions.now c.args.diagnostic.now
