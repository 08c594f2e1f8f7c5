use Rattle.lr_conflicts.specs.Inner.Listed.{AreListed}
use Rattle.lr_conflicts.proofs.parser.Parser.conflicts.Given as goal

-- those of the states so far are listed
abbrev pub invariant-loop-number : goal.invariant-loop-number
invariant-loop-number l = AreListed l.self.grammar.now l.self.levels.now l.self.lookaheads.now.automaton l.number 0 l.conflicts.items
