use Rattle.std.proofs.Common.{ℕ, ◌<◌, ◌⊎◌, map, get_or}
use Rattle.std.specs.List.{slice_index}
use Rattle.derivation.specs.Grammar.{HasProduction}
use Rattle.cfgtables.specs.Openings.{nth_production}
use Rattle.cfggreatest.specs.Inner.AtLeast.{IsUnproductive}
use Rattle.cfggreatest.specs.Inner.Sums.{AreNoLess, AreReached, IsUnder, known_in}
use Rattle.cfggreatest.proofs.sums.Group.take_rule.Given as goal

abbrev pub invariant-loop-p : goal.invariant-loop-p
invariant-loop-p g l = record {
  reached : AreReached (HasProduction (g.T.Tables.grammar l.grm)) (slice_index l.self.costs.now) l.rules l.sums;
  under : (k : ℕ) → k < l.p-index → IsUnproductive (HasProduction (g.T.Tables.grammar l.grm)) (nth_production (g.T.Tables.grammar l.grm) (get_or (map (λ p. g.S.Storage.number p.0) l.p-items) k 0)).symbols
      ⊎ IsUnder (slice_index l.self.costs.now) (known_in l.self) l.self.productive.now (nth_production (g.T.Tables.grammar l.grm) (get_or (map (λ p. g.S.Storage.number p.0) l.p-items) k 0)).symbols l.sums;
  more : AreNoLess l.fn.sums l.sums;
}
