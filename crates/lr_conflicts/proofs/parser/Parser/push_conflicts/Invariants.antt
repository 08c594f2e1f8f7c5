use Rattle.lr_conflicts.specs.Inner.Listed.{AreListed}
use Rattle.lr_conflicts.proofs.parser.Parser.push_conflicts.Given as goal

-- those at the tokens so far are listed
abbrev pub invariant-loop-token : goal.invariant-loop-token
invariant-loop-token l = AreListed l.self.grammar.now l.self.levels.now l.self.lookaheads.now.automaton l.number l.token l.conflicts.items
