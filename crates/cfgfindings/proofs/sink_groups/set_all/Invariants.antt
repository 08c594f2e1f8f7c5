use Rattle.std.proofs.Common.{◌≡◌, ℕ, length, take}
use Rattle.cfgfindings.specs.Inner.SinkGroups.{IsSet}
use Rattle.cfgfindings.proofs.sink_groups.set_all.Given as goal

abbrev pub invariant-loop-rule : goal.invariant-loop-rule
invariant-loop-rule l = record {
  entries : length l.entries.items ≡ length l.fn.entries.items;
  set : (rule : ℕ) → IsSet (take l.rule-index l.rules) l.entry l.fn.entries.items l.entries.items rule;
}
