use Rattle.std.proofs.Common.{take}
use Rattle.search.specs.Reachable.{FoundBy, Reaches}
use Rattle.lr_conflicts.specs.Inner.Choices.{GoesBy}
use Rattle.lr_conflicts.proofs.parser.Parser.reach_from.Given as goal

-- the states that the items so far lead to are reached
abbrev pub invariant-loop-item : goal.invariant-loop-item
invariant-loop-item l =
    Reaches (FoundBy (GoesBy l.self.grammar.now l.self.levels.now l.self.lookaheads.now.automaton l.number) (take l.item-index l.item-items)) l.fn.search l.search
