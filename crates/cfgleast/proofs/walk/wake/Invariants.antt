use Rattle.std.proofs.Common.{◌≡◌, ◌+◌, ◌≤◌, length}
use Rattle.std.specs.List.{slice_index}
use Rattle.derivation.specs.CostLists.{rule_cost}
use Rattle.cfgleast.specs.Inner.Open.{AreBests, AreWaking, count_open}
use Rattle.cfgleast.proofs.walk.wake.Given as goal

abbrev pub invariant-loop-partial : goal.invariant-loop-partial
invariant-loop-partial g l = record {
  waking : AreWaking (slice_index l.costs) (rule_cost l.least) (g.T.Tables.grammar l.grm) l.queue l.waiting l.woken l.partial-index;
  bests : AreBests (slice_index l.costs) (rule_cost l.least) (g.T.Tables.grammar l.grm) l.queue l.bests;
  lists : length l.waiting ≡ (g.T.Tables.grammar l.grm).rules;
  count : count_open l.queue l.waiting ≤ count_open l.fn.queue l.fn.waiting + l.partial-index;
}
