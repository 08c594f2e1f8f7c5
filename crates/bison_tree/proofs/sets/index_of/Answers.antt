use Rattle.std.proofs.Common.{bytes_eq, string_bytes, sym, ◌∙◌}
use Rattle.lemmas.proofs.Positions.{position-map}
use Rattle.bison_tree.proofs.sets.index_of.Goals as goal

pub returns : goal.returns
returns c = c.get_index_of.ensures.index ∙ sym (position-map (bytes_eq c.args.name.now) string_bytes c.args.names.now.keys)
