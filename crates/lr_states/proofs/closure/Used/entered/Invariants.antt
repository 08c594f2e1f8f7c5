use Rattle.std.proofs.Common.{length}
use Rattle.search.proofs.Reaching.{left_to_do}
use Rattle.cfgrammar.specs.Numbered.{core}
use Rattle.lr_states.specs.Inner.Closure.{IsOn}
use Rattle.lr_states.proofs.Entered.{Entering}
use Rattle.lr_states.proofs.closure.Used.entered.Given as goal

abbrev pub invariant-loop-rule : goal.invariant-loop-rule
invariant-loop-rule l = Entering (core l.self.grammar.now) (IsOn l.self.bits) l.kernel (length l.self.grammar.now.rules) l.entered l.search

abbrev pub decreases-loop-rule : goal.decreases-loop-rule
decreases-loop-rule l = left_to_do l.search
