use Rattle.std.proofs.Common.{take}
use Rattle.lr_states.proofs.Rules.{AreOn}
use Rattle.lr_states.proofs.used.have_sentences.Given as goal

-- each rule so far is productive
abbrev pub invariant-loop-symbol : goal.invariant-loop-symbol
invariant-loop-symbol l = AreOn l.productive (take l.symbol-index l.symbols)
