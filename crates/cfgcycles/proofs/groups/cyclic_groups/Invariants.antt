use Rattle.std.proofs.Common.{◌≡◌, ℕ, ◌<◌, None, get_or, length, replicate}
use Rattle.cfgcycles.specs.CyclicGroups.{IsGroupOf}
use Rattle.cfgcycles.specs.StepLists.{HasStep}
use Rattle.cfgcycles.specs.Inner.Members.{AreInner}
use Rattle.cfgcycles.proofs.groups.cyclic_groups.Given as goal

abbrev pub invariant-loop-rule : goal.invariant-loop-rule
invariant-loop-rule l = record {
  lists : length l.layers.steps.now ≡ length l.fn.steps;
  inner : AreInner l.fn.steps l.components.numbers.items l.layers.steps.now;
  found : l.layers.found.items ≡ replicate (length l.layers.steps.now) None;
  entries : length l.groups.items ≡ l.rule;
  each : (k : ℕ) → k < l.rule → IsGroupOf (HasStep l.fn.steps) k (get_or l.groups.items k None);
}
