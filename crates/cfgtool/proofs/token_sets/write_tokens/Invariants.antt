use Rattle.std.proofs.Common.{string_bytes}
use Rattle.cfgtool.specs.TokenSets.{set_word}
use Rattle.cfgtool.proofs.Written.{AreWritten}
use Rattle.cfgtool.proofs.token_sets.write_tokens.Given as goal

abbrev pub invariant-loop-tidx : goal.invariant-loop-tidx
invariant-loop-tidx g l =
    AreWritten (set_word l.end (g.T.TokenSets.among l.sets l.ridx.0)) l.grammar.tokens (string_bytes l.initial.lines) l.tidx-iterator (string_bytes l.lines)
