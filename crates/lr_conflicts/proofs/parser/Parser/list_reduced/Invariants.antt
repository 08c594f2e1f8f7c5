use Rattle.std.proofs.Common.{take}
use Rattle.lr_conflicts.proofs.Taken.{AreKept}
use Rattle.lr_conflicts.proofs.parser.Parser.list_reduced.Given as goal

-- those of the reductions so far are listed
abbrev pub invariant-loop-reduction : goal.invariant-loop-reduction
invariant-loop-reduction l =
    AreKept l.self.grammar.now l.self.levels.now l.turn (take l.reduction-index l.state.reductions.items) l.reduced.items
