use Rattle.std.proofs.Common.{ℕ, ◌≤◌, Contains, take}
use Rattle.cfgrammar.specs.TreeView.{syntax}
use Rattle.cfgfindings.specs.Findings.{IsStartRule, rules_added}
use Rattle.cfgfindings.proofs.unproductive_rules.is_first_of_sink_group.Given as goal

-- the rules so far come after the rule, and none is the start rule
abbrev pub invariant-loop-other : goal.invariant-loop-other
invariant-loop-other l = (q : ℕ) → Contains (take l.other-index l.group) q → rules_added l.grammar ≤ q
    → (l.rule ≤ q) × (IsStartRule (syntax l.ast) l.grammar q → ⊥)
