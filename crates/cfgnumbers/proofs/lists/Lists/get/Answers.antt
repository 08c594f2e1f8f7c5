use Rattle.std.proofs.Common.{Some, length, slice_range, arith, sym, ap, ◌∙◌}
use Rattle.std.proofs.lemmas.List.{length-take-le}
use Rattle.cfgnumbers.proofs.ListsBetween.{at_first, at_next, within}
use Rattle.cfgnumbers.proofs.lists.Lists.get.Goals as goal

pub index-end-requires : goal.index-end-requires
index-end-requires g c = omega (arith, within c.self.inside.items.items c.self.inside.ends.items c.self.invariant _ c.self.view_is c.args.index c.requires)

pub slice_bounds-result-end : goal.slice_bounds-result-end
slice_bounds-result-end g c =
    let first = at_first c.self.inside.items.items c.self.inside.ends.items c.self.invariant _ c.self.view_is c.args.index c.requires c.index-end.result.now c.index-end.ensures c.if-index-eq0.true in
    sym (length-take-le c.index-end.result.now c.deref.result.now (omega (arith, first.0, ap length c.deref.ensures.value)))

pub index-requires : goal.index-requires
index-requires g c = omega (arith, within c.self.inside.items.items c.self.inside.ends.items c.self.invariant _ c.self.view_is c.args.index c.requires)

pub offset_bounds-deref-index : goal.offset_bounds-deref-index
offset_bounds-deref-index g c =
    let next = at_next c.self.inside.items.items c.self.inside.ends.items c.self.invariant _ c.self.view_is c.args.index c.requires c.index-end.result.now c.index-end.ensures c.index.result.now (omega (arith, c.if-index-eq0.false)) c.index.ensures in
    omega (arith, next.0, next.1, ap length c.deref-else-index-eq0.ensures.value)

pub slice_bounds-result-count : goal.slice_bounds-result-count
slice_bounds-result-count g c = (at_next c.self.inside.items.items c.self.inside.ends.items c.self.invariant _ c.self.view_is c.args.index c.requires c.index-end.result.now c.index-end.ensures c.index.result.now (omega (arith, c.if-index-eq0.false)) c.index.ensures).0

pub slice_bounds-result-start : goal.slice_bounds-result-start
slice_bounds-result-start g c = (at_next c.self.inside.items.items c.self.inside.ends.items c.self.invariant _ c.self.view_is c.args.index c.requires c.index-end.result.now c.index-end.ensures c.index.result.now (omega (arith, c.if-index-eq0.false)) c.index.ensures).0

pub slice_bounds-result-end-else-index-eq0 : goal.slice_bounds-result-end-else-index-eq0
slice_bounds-result-end-else-index-eq0 g c =
    let next = at_next c.self.inside.items.items c.self.inside.ends.items c.self.invariant _ c.self.view_is c.args.index c.requires c.index-end.result.now c.index-end.ensures c.index.result.now (omega (arith, c.if-index-eq0.false)) c.index.ensures in
    omega (arith, next.1, ap length c.deref-else-index-eq0.ensures.value)

pub returns-else-index-eq0 : goal.returns-else-index-eq0
returns-else-index-eq0 g c =
    (at_next c.self.inside.items.items c.self.inside.ends.items c.self.invariant _ c.self.view_is c.args.index c.requires c.index-end.result.now c.index-end.ensures c.index.result.now (omega (arith, c.if-index-eq0.false)) c.index.ensures).2
    ∙ ap (λ l. Some (slice_range l c.index.result.now c.index-end.result.now)) (sym c.deref-else-index-eq0.ensures.value)
