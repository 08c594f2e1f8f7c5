use Rattle.std.proofs.Common.{◌≡◌, ◌≤◌, length}
use Rattle.std.specs.List.{slice_index}
use Rattle.derivation.specs.CostLists.{rule_cost}
use Rattle.cfgleast.specs.Inner.Open.{AreBests, AreOpen}
use Rattle.cfgleast.proofs.walk.start.Given as goal

abbrev pub invariant-loop-number : goal.invariant-loop-number
invariant-loop-number g l = record {
  state : AreOpen (slice_index l.costs) (rule_cost l.least) (g.T.Tables.grammar l.grm) l.queue l.waiting (λ q. l.number ≤ q) 0;
  bests : AreBests (slice_index l.costs) (rule_cost l.least) (g.T.Tables.grammar l.grm) l.queue l.bests;
  lists : length l.waiting ≡ (g.T.Tables.grammar l.grm).rules;
}
