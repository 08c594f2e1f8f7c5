use Rattle.std.proofs.Common.{◌≡◌, ℕ}
use Rattle.cfgchoices.specs.Inner.Candidates.{HandlesChains, IsHandled, left_to_choose, candidates_of}
use Rattle.cfgchoices.proofs.first.candidates.Chooser.choose_at_cost.Given as goal

abbrev pub invariant-loop : goal.invariant-loop
invariant-loop g l = record {
  going : HandlesChains l.optimal (candidates_of g.S.Storage.number l.self);
  handles : (q : ℕ) → IsHandled l.optimal.tables (candidates_of g.S.Storage.number l.initial.self) q
      → IsHandled l.optimal.tables (candidates_of g.S.Storage.number l.self) q;
  cost : l.self.cost ≡ l.initial.self.cost;
}

abbrev pub decreases-loop : goal.decreases-loop
decreases-loop g l = left_to_choose l.optimal (candidates_of g.S.Storage.number l.self)
