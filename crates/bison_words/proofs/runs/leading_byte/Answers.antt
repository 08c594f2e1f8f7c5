use Rattle.std.proofs.Common.{arith}
use Rattle.std.proofs.lemmas.Str.{IsCharBoundary-after_ascii}
use Rattle.bison_words.proofs.runs.leading_byte.Goals as goal

pub split_at-requires : goal.split_at-requires
split_at-requires c = rw c.as_bytes.ensures.value at (IsCharBoundary-after_ascii c.as_bytes.result.now 0 c.as_bytes.ensures.utf8 (omega (arith, c.in-len1-up.len_at_least)) (omega (arith, c.if-b-lt128.true)))
