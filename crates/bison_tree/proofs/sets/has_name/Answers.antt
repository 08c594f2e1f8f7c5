use Rattle.std.proofs.Common.{sym, ◌∙◌}
use Rattle.cfgitems.proofs.Views.{has_name-keys}
use Rattle.bison_tree.proofs.sets.has_name.Goals as goal

pub returns : goal.returns
returns c = c.contains.ensures ∙ sym (has_name-keys c.args.name.now c.args.names.now.keys)
