use Rattle.std.proofs.Common.{sym}
use Rattle.cfgwords.proofs.Quoted.{cut_opened, cut_name, cut_closed}
use Rattle.cfgwords.proofs.words.leading_quoted.Goals as goal

pub split_at-requires : goal.split_at-requires
split_at-requires c = cut_opened _ c.in_ok-len.len c.utf8.text (rw (sym c.as_bytes.ensures.value) c.in_ok-len.ensures)

pub split_at-requires-2 : goal.split_at-requires-2
split_at-requires-2 c = cut_name c.as_bytes.result.now _ c.in_ok-len.len c.in_ok-len.ensures (rw c.as_bytes.ensures.value c.split_at.ensures.back)

pub split_at-requires-3 : goal.split_at-requires-3
split_at-requires-3 c = cut_closed c.as_bytes.result.now _ _ c.in_ok-len.len c.as_bytes.ensures.utf8 c.in_ok-len.ensures (rw c.as_bytes.ensures.value c.split_at.ensures.back) c.split_at-2.ensures.back
