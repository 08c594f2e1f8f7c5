use Rattle.std.proofs.Common.{sym}
use Rattle.cfgwords.proofs.Boundaries.{after_closing}
use Rattle.cfgwords.proofs.strings.closed_by.Goals as goal

pub split_at-requires : goal.split_at-requires
split_at-requires c = after_closing _ c.args.quote c.utf8.left c.requires (rw (sym c.as_bytes.ensures.value) c.if-b-quote.true) (rw (sym c.as_bytes.ensures.value) c.in-len1-up.len_at_least)
