use Rattle.cfgwords.proofs.Balance.{IsAtDepth}
use Rattle.cfgwords.proofs.actions.balanced_len.Given as goal

abbrev pub invariant-loop-i : goal.invariant-loop-i
invariant-loop-i l = IsAtDepth l.bytes l.i l.depth
