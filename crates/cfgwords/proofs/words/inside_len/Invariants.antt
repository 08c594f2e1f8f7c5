use Rattle.std.proofs.Common.{◌≡◌, ◌+◌, drop}
use Rattle.std.specs.List.{prefix_len}
use Rattle.cfgwords.specs.FileWords.{is_inside}
use Rattle.cfgwords.proofs.words.inside_len.Given as goal

-- the count so far and what is left inside make up the whole
abbrev pub invariant-loop-i : goal.invariant-loop-i
invariant-loop-i l = l.i + prefix_len (is_inside l.quote) (drop l.i l.bytes) ≡ prefix_len (is_inside l.quote) l.bytes
