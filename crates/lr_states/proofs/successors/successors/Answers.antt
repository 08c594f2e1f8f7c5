use Rattle.std.proofs.Common.{◌<◌, ◌++◌, List, ap, arith, get_or, length, rules, ◌∙◌}
use Rattle.std.proofs.lemmas.Fn.{always_returns_same}
use Rattle.std.proofs.lemmas.List.{get_or_default, take_all}
use Rattle.std.proofs.lemmas.List.Elements.{Contains-get_or}
use Rattle.std.proofs.lemmas.List.Sorted.{IsNonDecreasingBy-from_sort_by_key}
use Rattle.cfgrammar.specs.Numbered.{core}
use Rattle.lr_states.specs.declared.successors.Step.{Step}
use Rattle.lr_states.specs.Inner.Closure.{items_after, step_of}
use Rattle.lr_states.specs.Inner.Steps.{items_by}
use Rattle.lr_states.specs.Viable.{item_at}
use Rattle.lr_states.proofs.ItemsBy.{items_by-stable}
use Rattle.lr_states.proofs.Stepped.{steps_more}
use Rattle.lr_states.proofs.successors.successors.Goals as goal

pub loop-item-init : goal.loop-item-init
loop-item-init c = λ node. ap (λ (l : List Step). items_by l node) c.new-steps.ensures.items

pub push_step-requires : goal.push_step-requires
push_step-requires c =
    c.requires _ (Contains-get_or c.args.items.now c.loop-item.item-index (item_at 0 0) (omega (arith, c.loop-item-test.true)))

pub loop-item-preserved : goal.loop-item-preserved
loop-item-preserved c =
    let g = core c.args.grammar.now in
    let all = c.args.items.now in
    let n = c.loop-item.item-index in
    let within : n < length all = omega (arith, c.loop-item-test.true) in
    let x = get_or all n (item_at 0 0) in
    λ node. c.in_ok-push_step.ensures node ∙ ap (λ l. l ++ step_of g node x) (c.loop-item.invariant node)
    ∙ steps_more (step_of g node) all n x within (get_or_default all n (item_at 0 0) x within)

pub returns : goal.returns
returns c = record {
  steps = λ node. items_by-stable c.loop-item.steps.items c.sort_by_key.new.self.items
      (c.in_ok-sort_by_key.ensures.stable (λ (s : Step). s.symbol) (always_returns_same _ _ _ (λ a r f called. search rules))) node ∙ c.loop-item.invariant node
      ∙ ap (λ l. items_after (core c.args.grammar.now) l node) (take_all c.loop-item.item-index c.args.items.now (omega (arith, c.loop-item-test.false)));
  ascending = IsNonDecreasingBy-from_sort_by_key (λ (s : Step). s.symbol) _ c.in_ok-sort_by_key.ensures.sorted (λ a r f called. search rules);
}
