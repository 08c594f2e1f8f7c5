use Rattle.std.proofs.Common.{◌≡◌, ℕ, List, length, take, drop, ◌-◌, arith, length-drop}
use Rattle.std.specs.List.{prefix_len}
use Rattle.std.proofs.lemmas.List.{take_rest}
use Rattle.std.proofs.lemmas.List.Sums.{prefix_len-le-length}
use Rattle.bison_words.specs.Bytes.{is_continuation}
use Rattle.bison_words.proofs.Boundaries.{character_boundary}
use Rattle.bison_words.proofs.runs.after_character.Goals as goal

others_are : (text : List ℕ) (n : ℕ) → n ≡ prefix_len is_continuation (take (length text - 1) (drop 1 text)) → n ≡ prefix_len is_continuation (drop 1 text)
others_are text n e = rw take_rest at e

pub overflow_add-continuation_len : goal.overflow_add-continuation_len
overflow_add-continuation_len c =
    let len = others_are c.as_bytes.result.now _ c.continuation_len.ensures in
    omega (arith, len, c.as_bytes.ensures.len, c.in-len1-up.len_at_least, prefix_len-le-length is_continuation (drop 1 c.as_bytes.result.now), length-drop 1 c.as_bytes.result.now)

pub split_at-requires : goal.split_at-requires
split_at-requires c = rw c.as_bytes.ensures.value at (character_boundary c.as_bytes.result.now c.continuation_len.result c.in-len1-up.len_at_least (others_are c.as_bytes.result.now _ c.continuation_len.ensures))
