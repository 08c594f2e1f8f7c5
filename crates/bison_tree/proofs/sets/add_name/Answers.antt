use Rattle.std.proofs.Common.{map, string_bytes, ap, ◌∙◌}
use Rattle.cfgitems.proofs.Views.{keys-insert_key}
use Rattle.bison_tree.proofs.sets.add_name.Goals as goal

pub returns : goal.returns
returns c =
    ap (map string_bytes) c.in_ok-insert.ensures.keys
    ∙ keys-insert_key c.args.name.now c.args.names.now.keys c.in_ok-from_str.field-0 c.in_ok-from_str.ensures.ok
