use Rattle.std.proofs.Common.{◌≡◌, ℕ, [], get_or, length}
use Rattle.search.specs.Components.{AreMembers}
use Rattle.search.proofs.components.members_of.Given as goal

abbrev pub invariant-loop-node : goal.invariant-loop-node
invariant-loop-node l = record {
  lists : length l.members ≡ l.components;
  members : (number : ℕ) → AreMembers l.numbers l.node number (get_or l.members number []);
}
