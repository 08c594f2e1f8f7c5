use Rattle.std.proofs.Common.{ℕ, List, All, leb, length, slice_get, sym, ap, subst, ◌∙◌, ◌<◌}
use Rattle.std.specs.List.{filter}
use Rattle.cfgrammar.specs.Numbered.{core}
use Rattle.cfgrammar.specs.StepLists.{HasStep}
use Rattle.cfgrammar.specs.StepPaths.{IsShortestCycle, IsShortestOf}
use Rattle.cfgrammar.specs.UnitSteps.{IsStep}
use Rattle.cfgfindings.specs.Findings.{rules_added}
use Rattle.cfgfindings.specs.Shown.{cyclic_finding}
use Rattle.cfgfindings.specs.Inner.CyclicRules.{IsSomeStep}
use Rattle.cfgfindings.proofs.OwnCycles.{cycle_as, head_within, own_cycle, own_shortest, own_within, reports_no_own, reports_own, steps_of_path}
use Rattle.cfgfindings.proofs.cyclic_rules.group_finding.Goals as goal

pub returns-in_default : goal.returns-in_default
returns-in_default c = reports_no_own c.unit_steps_are_derivations.ensures c.args.grammar.now c.args.steps.now c.requires.steps c.args.number c.args.group.now.rules.items c.args.group.now.cycle.items c.requires.group
    c.in_ok-rules.rules.items (c.in_ok-rules.ensures ∙ ap (filter (λ rule. leb (rules_added c.args.grammar.now) rule)) c.deref.ensures.value)
    (ap (λ (l : List ℕ). slice_get l 0) (sym c.deref-2.ensures.value) ∙ sym c.first.ensures.value ∙ sym c.copied.ensures ∙ c.in_default.is)

pub cyclic_group-requires-clause-rule : goal.cyclic_group-requires-clause-rule
cyclic_group-requires-clause-rule c = head_within c.unit_steps_are_derivations.ensures c.args.grammar.now c.args.steps.now c.requires.steps c.args.number c.args.group.now.rules.items c.args.group.now.cycle.items c.requires.group
    c.in_ok-rules.rules.items (c.in_ok-rules.ensures ∙ ap (filter (λ rule. leb (rules_added c.args.grammar.now) rule)) c.deref.ensures.value)
    c.in-Some.first (ap (λ (l : List ℕ). slice_get l 0) (sym c.deref-2.ensures.value) ∙ sym c.first.ensures.value ∙ sym c.copied.ensures ∙ c.in-Some.is)

pub cyclic_group-requires-clause-rules : goal.cyclic_group-requires-clause-rules
cyclic_group-requires-clause-rules c = subst (All (λ rule. rule < length c.args.grammar.now.rules)) (sym c.deref-then-first-number.ensures.value) (own_within c.unit_steps_are_derivations.ensures c.args.grammar.now c.args.steps.now c.requires.steps c.args.number c.args.group.now.rules.items c.args.group.now.cycle.items c.requires.group
    c.in_ok-rules.rules.items (c.in_ok-rules.ensures ∙ ap (filter (λ rule. leb (rules_added c.args.grammar.now) rule)) c.deref.ensures.value))

pub cyclic_group-requires-clause-steps : goal.cyclic_group-requires-clause-steps
cyclic_group-requires-clause-steps c = subst (All (IsSomeStep c.args.grammar.now)) (sym c.deref-then-first-number-2.ensures.value)
    (steps_of_path c.args.grammar.now c.args.number c.args.group.now.cycle.items c.args.number c.requires.group.shortest.itself.leads)

pub returns-then-first-number : goal.returns-then-first-number
returns-then-first-number c = reports_own c.unit_steps_are_derivations.ensures c.args.grammar.now c.args.steps.now c.requires.steps c.args.number c.args.group.now.rules.items c.args.group.now.cycle.items c.requires.group
    c.in_ok-rules.rules.items (c.in_ok-rules.ensures ∙ ap (filter (λ rule. leb (rules_added c.args.grammar.now) rule)) c.deref.ensures.value)
    c.in-Some.first (ap (λ (l : List ℕ). slice_get l 0) (sym c.deref-2.ensures.value) ∙ sym c.first.ensures.value ∙ sym c.copied.ensures ∙ c.in-Some.is) c.args.group.now.cycle.items
    (subst (λ rule. IsShortestCycle (IsStep (core c.args.grammar.now)) rule c.args.group.now.cycle.items) (sym c.if-first-number.true) c.requires.group.shortest) c.in_ok-cyclic_group.field-0
    (c.in_ok-cyclic_group.ensures ∙ (λ i. cyclic_finding c.args.grammar.now c.in-Some.first (c.deref-then-first-number.ensures.value i) (c.deref-then-first-number-2.ensures.value i)))

pub shortest_cycle-requires-clause-rule : goal.shortest_cycle-requires-clause-rule
shortest_cycle-requires-clause-rule c = subst (λ n. c.in-Some.first < n) (sym c.requires.steps.rules) (head_within c.unit_steps_are_derivations.ensures c.args.grammar.now c.args.steps.now c.requires.steps c.args.number c.args.group.now.rules.items c.args.group.now.cycle.items c.requires.group
    c.in_ok-rules.rules.items (c.in_ok-rules.ensures ∙ ap (filter (λ rule. leb (rules_added c.args.grammar.now) rule)) c.deref.ensures.value)
    c.in-Some.first (ap (λ (l : List ℕ). slice_get l 0) (sym c.deref-2.ensures.value) ∙ sym c.first.ensures.value ∙ sym c.copied.ensures ∙ c.in-Some.is))

pub cyclic_group-requires-in-Some-2-clause-rule : goal.cyclic_group-requires-in-Some-2-clause-rule
cyclic_group-requires-in-Some-2-clause-rule c = head_within c.unit_steps_are_derivations.ensures c.args.grammar.now c.args.steps.now c.requires.steps c.args.number c.args.group.now.rules.items c.args.group.now.cycle.items c.requires.group
    c.in_ok-rules.rules.items (c.in_ok-rules.ensures ∙ ap (filter (λ rule. leb (rules_added c.args.grammar.now) rule)) c.deref.ensures.value)
    c.in-Some.first (ap (λ (l : List ℕ). slice_get l 0) (sym c.deref-2.ensures.value) ∙ sym c.first.ensures.value ∙ sym c.copied.ensures ∙ c.in-Some.is)

pub cyclic_group-requires-in-Some-2-clause-rules : goal.cyclic_group-requires-in-Some-2-clause-rules
cyclic_group-requires-in-Some-2-clause-rules c = subst (All (λ rule. rule < length c.args.grammar.now.rules)) (sym c.deref-in-Some-2.ensures.value) (own_within c.unit_steps_are_derivations.ensures c.args.grammar.now c.args.steps.now c.requires.steps c.args.number c.args.group.now.rules.items c.args.group.now.cycle.items c.requires.group
    c.in_ok-rules.rules.items (c.in_ok-rules.ensures ∙ ap (filter (λ rule. leb (rules_added c.args.grammar.now) rule)) c.deref.ensures.value))

pub cyclic_group-requires-in-Some-2-clause-steps : goal.cyclic_group-requires-in-Some-2-clause-steps
cyclic_group-requires-in-Some-2-clause-steps c = subst (All (IsSomeStep c.args.grammar.now)) (sym c.deref-in-Some-2-2.ensures.value)
    (steps_of_path c.args.grammar.now c.in-Some.first c.in-Some-2.path.items c.in-Some.first (own_shortest c.args.grammar.now c.args.steps.now c.requires.steps c.in-Some.first c.in-Some-2.path.items (subst (IsShortestOf (HasStep c.args.steps.now) c.in-Some.first) c.in-Some-2.is c.in_ok-path.ensures)).itself.leads)

pub returns-in-Some-2 : goal.returns-in-Some-2
returns-in-Some-2 c = reports_own c.unit_steps_are_derivations.ensures c.args.grammar.now c.args.steps.now c.requires.steps c.args.number c.args.group.now.rules.items c.args.group.now.cycle.items c.requires.group
    c.in_ok-rules.rules.items (c.in_ok-rules.ensures ∙ ap (filter (λ rule. leb (rules_added c.args.grammar.now) rule)) c.deref.ensures.value)
    c.in-Some.first (ap (λ (l : List ℕ). slice_get l 0) (sym c.deref-2.ensures.value) ∙ sym c.first.ensures.value ∙ sym c.copied.ensures ∙ c.in-Some.is) c.in-Some-2.path.items
    (own_shortest c.args.grammar.now c.args.steps.now c.requires.steps c.in-Some.first c.in-Some-2.path.items (subst (IsShortestOf (HasStep c.args.steps.now) c.in-Some.first) c.in-Some-2.is c.in_ok-path.ensures)) c.in_ok-cyclic_group-in-Some-2.field-0
    (c.in_ok-cyclic_group-in-Some-2.ensures ∙ (λ i. cyclic_finding c.args.grammar.now c.in-Some.first (c.deref-in-Some-2.ensures.value i) (c.deref-in-Some-2-2.ensures.value i)))

pub returns : goal.returns
returns c =
    let (path, cycle) = own_cycle c.unit_steps_are_derivations.ensures c.args.grammar.now c.args.steps.now c.requires.steps c.args.number c.args.group.now.rules.items c.args.group.now.cycle.items c.requires.group
    c.in_ok-rules.rules.items (c.in_ok-rules.ensures ∙ ap (filter (λ rule. leb (rules_added c.args.grammar.now) rule)) c.deref.ensures.value)
    c.in-Some.first (ap (λ (l : List ℕ). slice_get l 0) (sym c.deref-2.ensures.value) ∙ sym c.first.ensures.value ∙ sym c.copied.ensures ∙ c.in-Some.is) in
    let none = subst (IsShortestOf (HasStep c.args.steps.now) c.in-Some.first) c.in-None.is c.in_ok-path.ensures in
    absurd (none path (cycle_as (IsStep (core c.args.grammar.now)) (HasStep c.args.steps.now) (λ rule step. (c.requires.steps.all rule step).1) c.in-Some.first path cycle))
