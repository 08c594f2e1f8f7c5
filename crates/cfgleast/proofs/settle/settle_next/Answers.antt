use Rattle.std.proofs.Common.{◌≡◌, ◌<◌, ℕ, [], OnOk, Some, slice_set, map, length, length-set, subst, sym, ap, ◌∙◌, arith}
use Rattle.std.proofs.lemmas.List.{length-map}
use Rattle.std.proofs.lemmas.Result.{on_ok_weaker}
use Rattle.std.specs.List.{slice_index}
use Rattle.cfgtables.specs.Openings.{nth_production}
use Rattle.cfgleast.specs.Certificate.{choice_of}
use Rattle.derivation.specs.CostLists.{rule_cost}
use Rattle.cfgleast.specs.Inner.Open.{AreAllOpen, AreBests, AreInput}
use Rattle.cfgleast.specs.Settled.{AreSettledSoFar}
use Rattle.cfgleast.proofs.Settles.{popped_position, popped_again, settles_chosen, settles_woken, popped_bests_again, settles_bests, settled_if_some, unset_if_none, owner_within}
use Rattle.cfgleast.proofs.settle.settle_next.Given.{Over}
use Rattle.cfgleast.proofs.settle.settle_next.Goals.{After-from-rule}
use Rattle.cfgleast.proofs.settle.settle_next.Goals as goal

owner : (g : Over) (c : After-from-rule g) → c.from-rule.result ≡ (nth_production (g.T.Tables.grammar c.args.grm.now) c.args.top.1).rule
owner g c = c.from-rule.ensures ∙ c.prod_to_rule.ensures ∙ ap (λ n. (nth_production (g.T.Tables.grammar c.args.grm.now) n).rule) c.to_storage.ensures

rule_within : (g : Over) (c : After-from-rule g) → c.from-rule.result < (g.T.Tables.grammar c.args.grm.now).rules
rule_within g c =
    let grammar = g.T.Tables.grammar c.args.grm.now in
    let index = popped_position grammar (slice_index c.args.costs.now) c.args.settled.now.least.items c.args.top c.args.queue.now c.args.bests.now c.args.waiting.now c.requires.popped in
    subst (λ n. n < grammar.rules) (sym (owner g c)) (owner_within grammar c.args.top.1 c.requires.input.grammar index)

pub to_storage-requires : goal.to_storage-requires
to_storage-requires g c =
    let index = popped_position (g.T.Tables.grammar c.args.grm.now) (slice_index c.args.costs.now) c.args.settled.now.least.items c.args.top c.args.queue.now c.args.bests.now c.args.waiting.now c.requires.popped in
    omega (arith, index, c.requires.input.positions)

pub prod_to_rule-requires : goal.prod_to_rule-requires
prod_to_rule-requires g c =
    let index = popped_position (g.T.Tables.grammar c.args.grm.now) (slice_index c.args.costs.now) c.args.settled.now.least.items c.args.top c.args.queue.now c.args.bests.now c.args.waiting.now c.requires.popped in
    subst (λ n. n < length (g.T.Tables.grammar c.args.grm.now).productions) (sym c.to_storage.ensures) index

pub returns-then-is_some-clause-state : goal.returns-then-is_some-clause-state
returns-then-is_some-clause-state g c =
    let grammar = g.T.Tables.grammar c.args.grm.now in
    let least = c.args.settled.now.least.items in
    let at = (goal.at.returns-then-is_some-clause-state g c).After-from-rule in
    let within : c.from-rule.result < length least = omega (arith, rule_within g at, c.requires.input.rules) in
    let done = settled_if_some least c.from-rule.result c.index.result.now within c.index.ensures (sym c.is_some.ensures ∙ c.if-is_some.true) in
    popped_again grammar (slice_index c.args.costs.now) least c.args.top c.args.queue.now c.args.bests.now c.args.waiting.now c.requires.popped c.from-rule.result done.0 (sym (owner g at)) done.1

pub wake-requires-clause-woken : goal.wake-requires-clause-woken
wake-requires-clause-woken g c =
    let grammar = g.T.Tables.grammar c.args.grm.now in
    let least = c.args.settled.now.least.items in
    let at = (goal.at.wake-requires-clause-woken g c).After-from-rule in
    let rule = rule_within g at in
    let within : c.from-rule.result < length least = omega (arith, rule, c.requires.input.rules) in
    let unset = unset_if_none least c.from-rule.result c.index.result.now within c.index.ensures (sym c.is_some.ensures ∙ c.if-is_some.false) in
    settles_woken grammar (slice_index c.args.costs.now) least c.args.top c.args.queue.now c.args.bests.now c.args.waiting.now c.requires.popped
    (map (choice_of g.S.Storage.number) c.args.settled.now.choices.items) c.args.settled.now.number c.from-rule.result c.requires.chosen rule unset (sym (owner g at))
    c.deref.result.now c.take-woken.new.self c.deref-2.result.now (c.deref.ensures.value ∙ c.settle.ensures.least) c.take-woken.ensures.rest
    (c.deref-2.ensures.value ∙ c.take-woken.ensures.list)

pub returns-clause-chosen : goal.returns-clause-chosen
returns-clause-chosen g c =
    let grammar = g.T.Tables.grammar c.args.grm.now in
    let least = c.args.settled.now.least.items in
    let choices = map (choice_of g.S.Storage.number) c.args.settled.now.choices.items in
    let at = (goal.at.returns-clause-chosen g c).After-from-rule in
    let rule = rule_within g at in
    let within : c.from-rule.result < length least = omega (arith, rule, c.requires.input.rules) in
    let unset = unset_if_none least c.from-rule.result c.index.result.now within c.index.ensures (sym c.is_some.ensures ∙ c.if-is_some.false) in
    on_ok_weaker {Q = AreSettledSoFar grammar (slice_index c.args.costs.now) c.settle.new.self.least.items (map (choice_of g.S.Storage.number) c.settle.new.self.choices.items) c.settle.new.self.number}
    c.wake.result (λ _. settles_chosen grammar (slice_index c.args.costs.now) least c.args.top c.args.queue.now c.args.bests.now c.args.waiting.now c.requires.popped
    choices c.args.settled.now.number c.from-rule.result c.requires.chosen rule unset (sym (owner g at))
    c.settle.new.self.least.items (map (choice_of g.S.Storage.number) c.settle.new.self.choices.items) c.settle.new.self.number
    c.settle.ensures.least (c.settle.ensures.choices ∙ ap (λ (n : ℕ). slice_set choices c.from-rule.result (Some (n, c.args.settled.now.number))) c.to_storage.ensures)
    c.settle.ensures.number) c.wake.ensures.lists

pub index-requires : goal.index-requires
index-requires g c =
    let rule = rule_within g (goal.at.index-requires g c).After-from-rule in
    subst (λ n. c.from-rule.result < n) (sym (c.args.settled.now.least.ok.0 ∙ c.requires.input.rules)) rule

pub settle-requires-clause-least : goal.settle-requires-clause-least
settle-requires-clause-least g c =
    let rule = rule_within g (goal.at.settle-requires-clause-least g c).After-from-rule in
    subst (λ n. c.from-rule.result < n) (sym c.requires.input.rules) rule

pub settle-requires-clause-choices : goal.settle-requires-clause-choices
settle-requires-clause-choices g c =
    let rule = rule_within g (goal.at.settle-requires-clause-choices g c).After-from-rule in
    subst (λ n. c.from-rule.result < n)
    (sym (sym (length-map c.args.settled.now.choices.items (choice_of g.S.Storage.number)) ∙ c.requires.chosen.listed)) rule

pub take-woken-requires : goal.take-woken-requires
take-woken-requires g c =
    let rule = rule_within g (goal.at.take-woken-requires g c).After-from-rule in
    subst (λ n. c.from-rule.result < n) (sym c.requires.lists) rule

pub wake-requires-clause-input : goal.wake-requires-clause-input
wake-requires-clause-input g c = record {
  grammar = c.requires.input.grammar;
  positions = c.requires.input.positions;
  tokens = c.requires.input.tokens;
  rules = ap length (c.deref.ensures.value ∙ c.settle.ensures.least) ∙ length-set c.args.settled.now.least.items c.from-rule.result (Some c.args.top.0) ∙ c.requires.input.rules;
}

pub wake-requires-clause-lists : goal.wake-requires-clause-lists
wake-requires-clause-lists g c = ap length c.take-woken.ensures.rest ∙ length-set c.args.waiting.now c.from-rule.result [] ∙ c.requires.lists

pub returns-clause-input : goal.returns-clause-input
returns-clause-input g c =
    on_ok_weaker {Q = AreInput (g.T.Tables.grammar c.args.grm.now) g.S.Storage.MAX c.args.costs.now c.settle.new.self.least.items} c.wake.result
    (λ _. record {
      grammar = c.requires.input.grammar;
      positions = c.requires.input.positions;
      tokens = c.requires.input.tokens;
      rules = ap length (c.settle.ensures.least) ∙ length-set c.args.settled.now.least.items c.from-rule.result (Some c.args.top.0) ∙ c.requires.input.rules;
    }) c.wake.ensures.lists

pub returns-clause-lists : goal.returns-clause-lists
returns-clause-lists g c = c.wake.ensures.lists

pub returns-clause-state : goal.returns-clause-state
returns-clause-state g c =
    subst (λ l. OnOk c.wake.result (AreAllOpen (slice_index c.args.costs.now) (rule_cost l) (g.T.Tables.grammar c.args.grm.now) c.wake.new.queue c.wake.new.waiting))
    c.deref.ensures.value c.wake.ensures.state

pub returns-then-is_some-clause-input : goal.returns-then-is_some-clause-input
returns-then-is_some-clause-input g c = c.requires.input

pub returns-then-is_some-clause-chosen : goal.returns-then-is_some-clause-chosen
returns-then-is_some-clause-chosen g c = c.requires.chosen

pub returns-then-is_some-clause-bests : goal.returns-then-is_some-clause-bests
returns-then-is_some-clause-bests g c =
    let grammar = g.T.Tables.grammar c.args.grm.now in
    let least = c.args.settled.now.least.items in
    let at = (goal.at.returns-then-is_some-clause-bests g c).After-from-rule in
    let within : c.from-rule.result < length least = omega (arith, rule_within g at, c.requires.input.rules) in
    let done = settled_if_some least c.from-rule.result c.index.result.now within c.index.ensures (sym c.is_some.ensures ∙ c.if-is_some.true) in
    popped_bests_again grammar (slice_index c.args.costs.now) least c.args.top c.args.queue.now c.args.bests.now c.args.waiting.now c.requires.popped c.from-rule.result done.0 (sym (owner g at)) done.1

pub wake-requires-clause-bests : goal.wake-requires-clause-bests
wake-requires-clause-bests g c =
    let grammar = g.T.Tables.grammar c.args.grm.now in
    let least = c.args.settled.now.least.items in
    let at = (goal.at.wake-requires-clause-bests g c).After-from-rule in
    let rule = rule_within g at in
    let within : c.from-rule.result < length least = omega (arith, rule, c.requires.input.rules) in
    let unset = unset_if_none least c.from-rule.result c.index.result.now within c.index.ensures (sym c.is_some.ensures ∙ c.if-is_some.false) in
    settles_bests grammar (slice_index c.args.costs.now) least c.args.top c.args.queue.now c.args.bests.now c.args.waiting.now c.requires.popped
    (map (choice_of g.S.Storage.number) c.args.settled.now.choices.items) c.args.settled.now.number c.from-rule.result c.requires.chosen rule unset (sym (owner g at))
    c.deref.result.now (c.deref.ensures.value ∙ c.settle.ensures.least)

pub returns-clause-bests : goal.returns-clause-bests
returns-clause-bests g c =
    subst (λ l. OnOk c.wake.result (AreBests (slice_index c.args.costs.now) (rule_cost l) (g.T.Tables.grammar c.args.grm.now) c.wake.new.queue c.wake.new.bests))
    c.deref.ensures.value c.wake.ensures.bests
