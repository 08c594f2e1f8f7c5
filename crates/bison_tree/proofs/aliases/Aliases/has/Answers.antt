use Rattle.std.proofs.Common.{string_bytes, sym, ◌∙◌}
use Rattle.cfgitems.proofs.Views.{has_entry-entries}
use Rattle.bison_tree.proofs.aliases.Aliases.has.Goals as goal

pub returns : goal.returns
returns c = c.contains_key.ensures ∙ sym (has_entry-entries string_bytes c.args.name.now c.args.self.now.of_strings.entries)
