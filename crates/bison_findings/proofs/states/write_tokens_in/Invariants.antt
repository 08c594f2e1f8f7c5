use Rattle.std.proofs.Common.{false, get_or, string_bytes}
use Rattle.bison_findings.proofs.Ranges.{AreWritten}
use Rattle.bison_findings.proofs.states.write_tokens_in.Given as goal

-- those of the tokens so far whose bits are on are written
abbrev pub invariant-loop-token : goal.invariant-loop-token
invariant-loop-token l = AreWritten l.grammar (λ t. get_or l.bits t false) (string_bytes l.initial.text) (string_bytes l.text) l.separator l.token
