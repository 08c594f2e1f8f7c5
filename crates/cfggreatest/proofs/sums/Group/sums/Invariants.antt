use Rattle.std.proofs.Common.{ℕ, Contains, take}
use Rattle.std.specs.List.{slice_index}
use Rattle.derivation.specs.Grammar.{HasProduction}
use Rattle.cfggreatest.specs.Inner.Sums.{AreReached, AreUnder, known_in}
use Rattle.cfggreatest.proofs.sums.Group.sums.Given as goal

abbrev pub invariant-loop-rule : goal.invariant-loop-rule
invariant-loop-rule g l = record {
  reached : AreReached (HasProduction (g.T.Tables.grammar l.grm)) (slice_index l.self.costs.now) l.rules l.sums;
  under : (r : ℕ) → Contains (take l.rule-index l.rules) r
      → AreUnder (HasProduction (g.T.Tables.grammar l.grm)) (slice_index l.self.costs.now) (known_in l.self) l.self.productive.now r l.sums;
}
