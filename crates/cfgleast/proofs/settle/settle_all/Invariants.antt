use Rattle.std.proofs.Common.{◌≡◌, map, length}
use Rattle.std.specs.List.{slice_index}
use Rattle.derivation.specs.CostLists.{rule_cost}
use Rattle.cfgleast.specs.Certificate.{choice_of}
use Rattle.cfgleast.specs.Inner.Open.{AreAllOpen, AreBests, AreInput, count_open}
use Rattle.cfgleast.specs.Settled.{AreSettledSoFar}
use Rattle.cfgleast.proofs.settle.settle_all.Given as goal

abbrev pub invariant-loop-top : goal.invariant-loop-top
invariant-loop-top g l = record {
  input : AreInput (g.T.Tables.grammar l.grm) g.S.Storage.MAX l.costs l.settled.least.items;
  lists : length l.waiting ≡ (g.T.Tables.grammar l.grm).rules;
  chosen : AreSettledSoFar (g.T.Tables.grammar l.grm) (slice_index l.costs) l.settled.least.items (map (choice_of g.S.Storage.number) l.settled.choices.items) l.settled.number;
  state : AreAllOpen (slice_index l.costs) (rule_cost l.settled.least.items) (g.T.Tables.grammar l.grm) l.queue l.waiting;
  bests : AreBests (slice_index l.costs) (rule_cost l.settled.least.items) (g.T.Tables.grammar l.grm) l.queue l.bests;
}

abbrev pub decreases-loop-top : goal.decreases-loop-top
decreases-loop-top g l = count_open l.queue l.waiting
