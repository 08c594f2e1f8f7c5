use Rattle.cfgrammar.specs.Numbered.{core}
use Rattle.lr_states.proofs.Rests.{AreSoFar}
use Rattle.lr_states.proofs.lookaheads.nodes.rests.Given as goal

-- the first nodes of the productions so far are there, and the one after them
abbrev pub invariant-loop-production : goal.invariant-loop-production
invariant-loop-production l = AreSoFar (core l.grammar) l.first l.production l.rests.items l.end
