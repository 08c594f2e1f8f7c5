-- What setting a mark makes of a key's marks.
use Rattle.cfgmarks.specs.declared.markmap.marked.Mark.{Mark}
use Rattle.cfgmarks.specs.declared.markmap.marked.Mark.TheVariants.{Used, Required, Merges}
use Rattle.cfgmarks.specs.declared.markmap.marked.Marked.{Marked}
use Rattle.cfgmarks.specs.Marks.{set_used, set_required, set_behavior}

abbrev pub set_mark : {V : Type 0} → Mark → Marked V → Marked V
set_mark Used = set_used
set_mark Required = set_required
set_mark (Merges behavior) = set_behavior behavior
