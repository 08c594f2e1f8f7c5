use Rattle.std.proofs.Common.{◌∙◌, ap, option_map}
use Rattle.cfgsyntax.specs.Reads.{InFile}
use Rattle.cfgsyntax.proofs.read.read_after.Goals as goal

pub returns : goal.returns
returns c = (c.tree_of.ensures ∙ c.in_ok-syntax.ensures.0, c.stop_in_file.ensures ∙ ap (option_map InFile) c.in_ok-syntax.ensures.1)
