use Rattle.std.proofs.Common.{◌≡◌, ◌+◌, drop}
use Rattle.std.specs.List.{prefix_len}
use Rattle.bison_words.specs.Bytes.{is_continuation}
use Rattle.bison_words.proofs.runs.continuation_len.Given as goal

-- the count so far and the rest of the run make up the whole run
abbrev pub invariant-loop-i : goal.invariant-loop-i
invariant-loop-i l = l.i + prefix_len is_continuation (drop l.i l.bytes) ≡ prefix_len is_continuation l.bytes
