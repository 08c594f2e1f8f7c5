use Rattle.std.proofs.Common.{◌≡◌, ◌==◌, List, Some, true, ap, arith, length, subst, sym, ◌∙◌}
use Rattle.std.proofs.lemmas.List.Elements.{Contains-get_or}
use Rattle.std.proofs.lemmas.Option.{get_or_from_slice_get, slice_get-get_or}
use Rattle.cfgrammar.specs.Grammar.{Rule}
use Rattle.cfgrammar.specs.Numbered.{core}
use Rattle.lr_states.specs.declared.Item.{Item}
use Rattle.lr_states.specs.Inner.Closure.{first, next}
use Rattle.lr_states.specs.Viable.{HasNext, item_at}
use Rattle.lr_states.proofs.closure.has_seed.Goals as goal

pub next_symbol-requires : goal.next_symbol-requires
next_symbol-requires c = c.requires _ (Contains-get_or c.args.kernel.now c.loop-item.item-index (item_at 0 0) c.loop-item-test.true)

pub returns : goal.returns
returns c same rule seed = elim seed [
  | first none zero ↦
      let full = c.if-is_empty.false in
      let is = c.is_empty.ensures in
      let empty : (length c.args.kernel.now == 0) ≡ true = ap (λ (l : List Item). length l == 0) none in
      absurd (cc)
  | next item (k, within, is) at ↦
      let there = get_or_from_slice_get c.args.kernel.now k item (item_at 0 0) (slice_get-get_or c.args.kernel.now k item within ∙ ap Some is) in
      c.loop-item.invariant k rule (omega (arith, within, c.loop-item-test.false, c.loop-item.auto.item-index-end))
      (subst (λ x. HasNext (core c.args.grammar.now) x (Rule rule)) (sym there) at)
]
