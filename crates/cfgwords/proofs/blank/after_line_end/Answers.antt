use Rattle.std.proofs.Common.{sym, ◌∙◌}
use Rattle.cfgwords.proofs.Boundaries.{after_line_end}
use Rattle.cfgwords.proofs.blank.after_line_end.Goals as goal

pub split_at-requires : goal.split_at-requires
split_at-requires c = after_line_end c.args.text.now c.utf8.text c.requires (sym c.is_empty.ensures ∙ c.if-is_empty.false)
