use Rattle.std.specs.List.{slice_index}
use Rattle.cfggreatest.proofs.Grouping.{AreSettled}
use Rattle.cfggreatest.proofs.greatest.greatest_costs.Given as goal

abbrev pub invariant-loop-number : goal.invariant-loop-number
invariant-loop-number g l = AreSettled (g.T.Tables.grammar l.grm) (slice_index l.costs) l.groups.numbers.items l.number l.results.items
