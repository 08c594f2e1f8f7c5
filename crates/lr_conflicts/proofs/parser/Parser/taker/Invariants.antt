use Rattle.std.proofs.Common.{Contains, take}
use Rattle.lr_conflicts.specs.Inner.Choices.{Takes}
use Rattle.lr_conflicts.specs.declared.parser.Reduction.{Reduction}
use Rattle.lr_conflicts.proofs.parser.Parser.taker.Given as goal

-- none of the reductions so far takes the shift
abbrev pub invariant-loop-reduction : goal.invariant-loop-reduction
invariant-loop-reduction l =
    (other : Reduction) → Contains (take l.reduction-index l.state.reductions.items) other → Takes l.self.grammar.now l.self.levels.now l.token other → ⊥
