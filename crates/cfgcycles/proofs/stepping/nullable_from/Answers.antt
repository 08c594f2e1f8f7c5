use Rattle.std.proofs.Common.{◌≡◌, ◌+◌, ◌≤◌, ◌↔◌, arith, map, length, sym, subst, ap, ◌∙◌}
use Rattle.cfgtables.specs.NumberedSymbols.{sym_of}
use Rattle.cfgcycles.specs.Inner.Putting.{AreNullableBetween, is_empty}
use Rattle.cfgcycles.proofs.EmptyPositions.{position_kept, position_moved, symbol_at}
use Rattle.cfgcycles.proofs.stepping.nullable_from.Goals as goal
use Rattle.cfgcycles.proofs.stepping.nullable_from.Goals.{then-not-nullable, else-not-nullable}

pub loop-index-preserved : goal.loop-index-preserved
loop-index-preserved g c =
    let number = g.S.Storage.number in
    let x = c.args.firsts.now in
    let i = c.loop-index.index in
    let at = symbol_at (sym_of number) c.args.symbols.now i c.index-symbols-index.result (omega (arith, c.loop-index-test.true)) c.index-symbols-index.is in
    let now = c.nullable.ensures ∙ ap (is_empty x) (sym at) in
    elim c.if-not-nullable.branch [
      | then-not-nullable w ↦ λ p. subst (λ n. (n ≤ p) ↔ AreNullableBetween x (map (sym_of number) c.args.symbols.now) p (i + 1)) (sym w.from-is)
          (position_moved x _ i (sym now ∙ w.if-not-nullable.true) p)
      | else-not-nullable w ↦ λ p. subst (λ n. (n ≤ p) ↔ AreNullableBetween x (map (sym_of number) c.args.symbols.now) p (i + 1)) (sym w.from-is)
          (position_kept x _ i c.loop-index.from c.loop-index.invariant (sym now ∙ w.if-not-nullable.false) p)
    ]

pub returns : goal.returns
returns g c =
    let end : c.loop-index.index ≡ length c.args.symbols.now = omega (arith, c.loop-index-test.false, c.loop-index.auto.index-end) in
    λ p. subst (λ n. (c.loop-index.from ≤ p) ↔ AreNullableBetween c.args.firsts.now (map (sym_of g.S.Storage.number) c.args.symbols.now) p n) end (c.loop-index.invariant p)
