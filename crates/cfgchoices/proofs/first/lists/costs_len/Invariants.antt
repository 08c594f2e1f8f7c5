use Rattle.std.proofs.Common.{◌≡◌, ℕ, ◌<◌, Some}
use Rattle.derivation.specs.CostLists.{rule_cost}
use Rattle.cfgchoices.proofs.first.lists.costs_len.Given as goal

abbrev pub invariant-loop-entry : goal.invariant-loop-entry
invariant-loop-entry l = (r c : ℕ) → r < l.entry-index → rule_cost l.least r ≡ Some c → c < l.len
