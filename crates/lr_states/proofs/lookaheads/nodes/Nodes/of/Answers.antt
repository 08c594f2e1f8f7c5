use Rattle.std.proofs.Common.{◌≡◌, ◌+◌, ◌<◌, [], List, Some, IfSome, ap, arith, get_or, length, subst, sym, ◌∙◌}
use Rattle.std.proofs.lemmas.List.{get_or_default, length-map, length_push}
use Rattle.cfgrammar.specs.Numbered.{core, production_core}
use Rattle.lr_states.specs.declared.lookaheads.nodes.Block.{Block}
use Rattle.lr_states.specs.Inner.Numbers.{AreBlocks, IsBlock}
use Rattle.lr_states.proofs.Blocks.{blocks_more, blocks_none}
use Rattle.lr_states.proofs.lookaheads.nodes.Nodes.of.Goals as goal

pub loop-state-init : goal.loop-state-init
loop-state-init c =
    let from = c.index-len.result.now in
    let none : c.in_ok-blocks.blocks.items ≡ [] = c.in_ok-blocks.ensures.items in
    record {
      count = ap length none;
      blocks = subst (λ (l : List Block). AreBlocks c.from-rules.result c.args.states.now from l from) (sym none) (blocks_none c.from-rules.result c.args.states.now from);
    }

pub loop-state-preserved : goal.loop-state-preserved
loop-state-preserved c =
    let x = c.args.states.now in
    let q = c.loop-state.state in
    let rules = c.from-rules.result in
    let from = c.index-len.result.now in
    let old = c.loop-state.blocks.items in
    let block = c.in_ok-block.block in
    let count = c.loop-state.invariant.count in
    let some : c.block_at.result ≡ Some block = c.in_ok-block.ensures.ok_part in
    let first = subst (λ o. IfSome o (λ (b : Block). b.items ≡ c.loop-state.len)) some c.block_at.ensures.first in
    let is = subst (λ o. IfSome o (IsBlock rules c.items.result.now c.targets.result.now)) some c.block_at.ensures.block in
    let here = subst (λ l. IsBlock rules l (get_or x.targets q []) block) c.items.ensures (subst (λ l. IsBlock rules c.items.result.now l block) c.targets.ensures is) in
    record {
      count = ap length c.in_ok-push.ensures.items ∙ length_push old block ∙ ap (λ n. n + 1) count;
      blocks = subst (λ l. AreBlocks rules x from l block.end) (sym c.in_ok-push.ensures.items)
          (blocks_more rules x from old c.loop-state.len c.loop-state.invariant.blocks q count block here first);
    }

pub returns : goal.returns
returns c =
    let g = core c.args.grammar.now in
    let tokens = c.from-tokens.ensures ∙ c.tokens_len.ensures in
    let rules = c.from-rules.ensures ∙ c.rules_len.ensures in
    let products = length-map c.args.grammar.now.productions production_core in
    let end : c.loop-state.state ≡ length c.args.states.now.states = omega (arith, c.loop-state-test.false, c.loop-state.auto.state-end, c.len-state-end.ensures) in
    let rests = c.in_ok-rests.rests.items in
    let last : c.from.result ≡ length g.productions = c.from.ensures ∙ c.prods_len.ensures ∙ sym products in
    let count = c.in_ok-rests.ensures.count in
    let first : c.index-len.result.now ≡ get_or rests (length g.productions) 0 =
    c.index-len.ensures ∙ get_or_default rests c.from.result c.index-len.result.now 0 (omega (arith, last, count)) ∙ ap (λ k. get_or rests k 0) last in
    record {
      tokens = tokens;
      rules = rules;
      productions = c.in_ok-owners.ensures.count ∙ sym products;
      owners = λ p low. c.in_ok-owners.ensures.owners p (subst (λ n. p < n) products low);
      rests = c.in_ok-rests.ensures;
      states = c.loop-state.invariant.count ∙ end;
      blocks = subst (λ k. AreBlocks g.rules c.args.states.now k c.loop-state.blocks.items c.loop-state.len) first
          (subst (λ r. AreBlocks r c.args.states.now c.index-len.result.now c.loop-state.blocks.items c.loop-state.len) rules c.loop-state.invariant.blocks);
    }
