use Rattle.std.proofs.Common.{◌≡◌, Contains, map, take}
use Rattle.lr_conflicts.specs.Inner.Choices.{IsReductionAt}
use Rattle.lr_conflicts.specs.declared.parser.Reduction.{Reduction}
use Rattle.lr_conflicts.proofs.parser.Parser.state.Given as goal

-- the reductions of the productions so far are there
abbrev pub invariant-loop-production : goal.invariant-loop-production
invariant-loop-production l = record {
  productions : map (λ (r : Reduction). r.production) l.reductions.items ≡ take l.production-index l.production-items;
  each : (r : Reduction) → Contains l.reductions.items r → IsReductionAt l.self.grammar.now l.self.lookaheads.now l.number r;
}
