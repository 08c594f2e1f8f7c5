use Rattle.std.proofs.Common.{◌≡◌, ◌+◌, ap, length, map, subst, sym, take, true≢false, ◌∙◌}
use Rattle.std.proofs.lemmas.List.{length-map, length-take-le, map_more, take_all}
use Rattle.cfgrammar.specs.NumberedSymbols.{sym_of}
use Rattle.lr_states.specs.Inner.Edges.{IsNullableFrom}
use Rattle.lr_states.proofs.NullableFrom.{from_after, from_none, from_same}
use Rattle.lr_states.proofs.lookaheads.nullable.nullable_suffix.Goals.{then-not-is_nullable, else-not-is_nullable}
use Rattle.lr_states.proofs.lookaheads.nullable.nullable_suffix.Goals as goal

pub loop-index-init : goal.loop-index-init
loop-index-init c = λ g firsts. from_none g

pub loop-index-preserved : goal.loop-index-preserved
loop-index-preserved c = λ g firsts.
    let all = c.args.symbols.now in
    let i = c.loop-index.index in
    let done = map (sym_of (λ s. s)) (take i all) in
    let known = c.loop-index.invariant g firsts in
    let one = c.is_nullable.ensures g firsts in
    let count : length done ≡ i = length-map (take i all) (sym_of (λ s. s)) ∙ length-take-le i all c.loop-index.auto.index-end in
    subst (λ l. IsNullableFrom g l c.if-not-is_nullable.from) (sym (map_more (sym_of (λ s. s)) all i _ c.loop-index-test.true)) (elim c.if-not-is_nullable.branch [
      | then-not-is_nullable w ↦ from_after g done _ (λ d. true≢false (sym (one.1 d) ∙ w.if-not-is_nullable.true)) c.if-not-is_nullable.from
          (w.from-is ∙ ap (λ k. k + 1) (sym count))
      | else-not-is_nullable w ↦ subst (IsNullableFrom g _) (sym w.from-is) (from_same g done _ c.loop-index.from known (one.0 w.if-not-is_nullable.false))
    ])

pub returns : goal.returns
returns c = λ g firsts.
    let all = c.args.symbols.now in
    subst (λ l. IsNullableFrom g (map (sym_of (λ s. s)) l) c.loop-index.from) (take_all c.loop-index.index all c.loop-index-test.false) (c.loop-index.invariant g firsts)
