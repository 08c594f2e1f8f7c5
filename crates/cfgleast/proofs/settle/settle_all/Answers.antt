use Rattle.std.proofs.Common.{◌≡◌, ℕ, List, [], None, Option, get_or, map, length, subst, ap, ◌∙◌, arith}
use Rattle.std.specs.List.{slice_index}
use Rattle.std.proofs.lemmas.List.{get_or-replicate, length-replicate}
use Rattle.std.proofs.lemmas.List.Sorted.{length_permutation}
use Rattle.derivation.specs.CostLists.{rule_cost}
use Rattle.cfgleast.specs.Certificate.{choice_of}
use Rattle.cfgleast.specs.Inner.Open.{AreAllOpen, AreBests, AreOpen}
use Rattle.cfgleast.proofs.Chosen.{none_chosen_yet}
use Rattle.cfgleast.proofs.Opened.{finished}
use Rattle.cfgleast.proofs.settle.settle_all.Goals as goal

pub start-requires-clause-input : goal.start-requires-clause-input
start-requires-clause-input g c =
    let rules = (g.T.Tables.grammar c.args.grm.now).rules in
    record {
      grammar = c.invariant_holds.ensures.content;
      positions = c.invariant_holds.ensures.productions;
      tokens = c.requires.costs;
      rules = ap length (c.deref.ensures.value ∙ c.requires.least) ∙ length-replicate {A = Option ℕ} rules None;
    }

pub start-requires-clause-least : goal.start-requires-clause-least
start-requires-clause-least g c = c.deref.ensures.value ∙ c.requires.least

pub start-requires-clause-bests : goal.start-requires-clause-bests
start-requires-clause-bests g c =
    let rules = (g.T.Tables.grammar c.args.grm.now).rules in
    let all = ap length c.requires.bests ∙ length-replicate rules 4294967295 in
    record {
      rules = all;
      each = λ r within low.
          let is = ap (λ (l : List ℕ). get_or l r 0) c.requires.bests ∙ get_or-replicate rules r 4294967295 0 (omega (arith, within, all)) in
          absurd (omega (arith, is, low));
    }

pub settle_next-requires-clause-small : goal.settle_next-requires-clause-small
settle_next-requires-clause-small g c =
    omega (arith, c.invariant_holds.ensures.rules, c.invariant_holds.ensures.limit)

pub loop-top-init : goal.loop-top-init
loop-top-init g c =
    let grammar = g.T.Tables.grammar c.args.grm.now in
    let cost = slice_index c.args.costs.now in
    record {
      input = record {
        grammar = c.invariant_holds.ensures.content;
        positions = c.invariant_holds.ensures.productions;
        tokens = c.requires.costs;
        rules = ap length c.requires.least ∙ length-replicate {A = Option ℕ} grammar.rules None;
      };
      lists = c.in_ok-start.ensures.lists;
      chosen = none_chosen_yet grammar cost c.args.settled.now.least.items (map (choice_of g.S.Storage.number) c.args.settled.now.choices.items) c.args.settled.now.number
          c.requires.least c.requires.choices c.requires.number;
      state = subst (λ (l : List (Option ℕ)). AreAllOpen cost (rule_cost l) grammar c.start.new.queue c.start.new.waiting) c.deref.ensures.value c.in_ok-start.ensures.state;
      bests = subst (λ (l : List (Option ℕ)). AreBests cost (rule_cost l) grammar c.start.new.queue c.start.new.bests) c.deref.ensures.value c.in_ok-start.ensures.bests;
    }

pub settle_next-requires-clause-popped : goal.settle_next-requires-clause-popped
settle_next-requires-clause-popped g c = record {
  before = c.loop-top.queue;
  known = c.loop-top.invariant.bests;
  state = c.loop-top.invariant.state;
  out = c.in-Some.ensures.out;
  cheapest = c.in-Some.ensures.least;
}

pub loop-top-preserved : goal.loop-top-preserved
loop-top-preserved g c = record {
  input = c.in_ok-settle_next.ensures.input;
  lists = c.in_ok-settle_next.ensures.lists;
  chosen = c.in_ok-settle_next.ensures.chosen;
  state = c.in_ok-settle_next.ensures.state;
  bests = c.in_ok-settle_next.ensures.bests;
}

pub loop-top-smaller : goal.loop-top-smaller
loop-top-smaller g c =
    let shorter = length_permutation _ _ c.in-Some.ensures.out in
    omega (arith, shorter, c.in_ok-settle_next.ensures.count)

pub returns : goal.returns
returns g c =
    let grammar = g.T.Tables.grammar c.args.grm.now in
    let cost = slice_index c.args.costs.now in
    let state = c.loop-top.invariant.state in
    let none : c.loop-top.queue ≡ [] = c.in_default.ensures.none in
    record {
      chosen = c.loop-top.invariant.chosen;
      covered = finished grammar cost (rule_cost c.loop-top.settled.least.items) state.0 c.loop-top.waiting (λ p. ⊥) (λ q h. h)
          (subst (λ (l : List (ℕ × ℕ)). AreOpen cost (rule_cost c.loop-top.settled.least.items) grammar l c.loop-top.waiting (λ p. ⊥) state.0) none state.1);
    }
