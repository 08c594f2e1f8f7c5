use Rattle.std.proofs.Common.{sym, ◌∙◌}
use Rattle.cfgwords.proofs.Boundaries.{after_quote}
use Rattle.cfgwords.proofs.strings.leading_string.Goals as goal

pub split_at-requires : goal.split_at-requires
split_at-requires c = after_quote _ c.utf8.text (rw (sym c.as_bytes.ensures.value) (sym c.holds.ensures ∙ c.if-holds.true)) (rw (sym c.as_bytes.ensures.value) c.in-len1-up.len_at_least)
