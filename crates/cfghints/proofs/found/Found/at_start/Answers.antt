use Rattle.std.proofs.Common.{◌+◌, ℕ, List, subst}
use Rattle.std.specs.Str.{IsCharBoundary}
use Rattle.cfghints.proofs.Pieces.{piece_boundary}
use Rattle.cfghints.proofs.found.Found.at_start.Goals as goal

pub split_at-requires : goal.split_at-requires
split_at-requires c =
    subst (λ (t : List ℕ). IsCharBoundary t (1 + c.continued_len-len.result)) c.as_bytes.ensures.value
    (piece_boundary c.as_bytes.result.now c.continued_len-len.result c.as_bytes.ensures.utf8 c.in-len1-up.len_at_least
    c.continued_len-len.ensures.value)
