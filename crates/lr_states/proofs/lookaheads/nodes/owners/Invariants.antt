use Rattle.std.proofs.Common.{◌≡◌}
use Rattle.cfgrammar.specs.Numbered.{core}
use Rattle.cfgrammar.specs.Openings.{nth_production}
use Rattle.lr_states.proofs.Growing.{AreUpTo}
use Rattle.lr_states.proofs.lookaheads.nodes.owners.Given as goal

-- the rules of the productions so far are there
abbrev pub invariant-loop-production : goal.invariant-loop-production
invariant-loop-production l = AreUpTo (λ p rule. rule ≡ (nth_production (core l.grammar) p).rule) 0 l.production l.owners.items
