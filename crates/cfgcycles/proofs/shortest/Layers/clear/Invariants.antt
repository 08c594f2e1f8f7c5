use Rattle.std.proofs.Common.{◌≡◌, ℕ, Some, Contains, length, take}
use Rattle.cfgcycles.specs.declared.shortest.Found.{Found}
use Rattle.cfgcycles.specs.Inner.Layers.{noted}
use Rattle.cfgcycles.proofs.shortest.Layers.clear.Given as goal

abbrev pub invariant-loop-rule : goal.invariant-loop-rule
invariant-loop-rule l = record {
  steps : l.self.steps.now ≡ l.fn.self.steps.now;
  entries : length l.self.found.items ≡ length l.fn.self.found.items;
  found : (rule : ℕ) (found : Found) → noted l.self.found.items rule ≡ Some found
      → (noted l.fn.self.found.items rule ≡ Some found) × (Contains (take l.rule-index l.rules) rule → ⊥);
}
