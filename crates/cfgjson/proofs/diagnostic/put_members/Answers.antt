use Rattle.std.proofs.Common.{ap, ◌∙◌}
use Rattle.serde_json.specs.Data.{array}
use Rattle.serde_json.specs.View.{members_view}
use Rattle.serde_json.proofs.Views.{view-Array}
use Rattle.cfgjson.proofs.Members.{diagnostic_put}
use Rattle.cfgjson.proofs.diagnostic.put_members.Goals as goal

pub returns : goal.returns
returns c = diagnostic_put c.put_symbols.result c.args.name.now c.args.positions.now c.text.result.now c.severity.result.now
    _ c.args.diagnostic.now _ (members_view c.args.members.now.entries) _ _ _ _ _ _ _ c.diagnostic.view_is
    c.in_ok-put_text.ensures c.severity.ensures c.in_ok-put_text-2.ensures c.in_ok-put_text-3.ensures c.in_ok-put_text-4.ensures
    (view-Array c.in_ok-places.places ∙ ap array c.in_ok-places.ensures) c.in_ok-put.ensures.ok c.in_ok-put_hint.ensures c.text.ensures c.put_symbols.ensures
