use Rattle.std.proofs.Common.{◌≡◌, map, take}
use Rattle.cfgfindings.specs.Shown.{rule_span}
use Rattle.cfgfindings.proofs.cyclic_rules.name_spans.Given as goal

-- the spans so far
abbrev pub invariant-loop-rule : goal.invariant-loop-rule
invariant-loop-rule l = l.spans.items ≡ map (rule_span l.grammar) (take l.rule-index l.rules)
