use Rattle.std.proofs.Common.{◌≡◌, ℕ, ◌+◌, ◌<◌, ◌≤◌, ◌↔◌, inl, inr, true, arith, map, length, refl, sym, subst, ap, true≢false, ◌∙◌}
use Rattle.std.proofs.lemmas.List.{length-map}
use Rattle.cfgtables.specs.Openings.{nth_production}
use Rattle.cfgtables.specs.NumberedSymbols.{sym_of}
use Rattle.cfgcycles.specs.Inner.Putting.{AreNullableBetween, ArePut, is_empty}
use Rattle.cfgcycles.specs.StepLists.{AreAllInOrder}
use Rattle.cfgcycles.proofs.EmptyPositions.{prefix_gone, prefix_kept, symbol_at}
use Rattle.cfgcycles.proofs.Positions.{all_positions, IsBefore, no_position, shown_left, shown_taken}
use Rattle.cfgcycles.proofs.stepping.put_steps.Goals as goal
use Rattle.cfgcycles.proofs.stepping.put_steps.Goals.{then-prefix+then-after-index+in_ok-put_step, else-prefix, else-prefix-via-then-prefix+else-after-index, else-prefix-via-else-prefix, then-prefix-2, else-prefix-2}

pub loop-index-init : goal.loop-index-init
loop-index-init g c =
    (((λ h k from lt. absurd (omega (arith, lt))), (λ h. refl)), no_position _ _ _, (λ order fresh. order))

pub loop-index-preserved : goal.loop-index-preserved
loop-index-preserved g c =
    let number = g.S.Storage.number in
    let grammar = g.T.Tables.grammar c.args.tables.now in
    let x = c.args.firsts.now in
    let i = c.loop-index.index in
    let symbols = c.prod-symbols.result.now in
    let shown = map (sym_of number) symbols in
    let lt : i < length symbols = omega (arith, c.loop-index-test.true) in
    let within : i < length shown = subst (λ n. i < n) (sym (length-map symbols (sym_of number))) lt in
    let at = symbol_at (sym_of number) symbols i c.index-symbols-index.result lt c.index-symbols-index.is in
    let same = c.prod-symbols.ensures ∙ ap (λ p. (nth_production grammar p).symbols) c.to_storage.ensures in
    let owner = c.from-rule.ensures ∙ c.prod_to_rule.ensures ∙ ap (λ p. (nth_production grammar p).rule) c.to_storage.ensures in
    let from : (index : ℕ) → (c.nullable_from-after.result ≤ index) ↔ AreNullableBetween x shown index (length shown) = λ index. subst (λ n. (c.nullable_from-after.result ≤ index) ↔ AreNullableBetween x shown index n) (sym (length-map symbols (sym_of number))) (c.nullable_from-after.ensures index) in
    let prefix = c.loop-index.prefix in
    let old = c.args.steps.now in
    let mid = c.loop-index.steps in
    let left = shown_left grammar x c.requires.firsts c.args.production c.requires.production shown same c.from-rule.result owner i within prefix
    c.nullable_from-after.result c.loop-index.invariant.0 from in (
      elim c.if-prefix-2.branch [
        | then-prefix-2 w ↦ prefix_kept x shown i prefix c.if-prefix-2.prefix c.loop-index.invariant.0 w.if-prefix-2.true
            (w.prefix-is ∙ w.nullable-prefix.ensures ∙ ap (is_empty x) (sym at))
        | else-prefix-2 w ↦ subst (λ b. (b ≡ true) ↔ AreNullableBetween x shown 0 (i + 1)) (sym w.prefix-is) (prefix_gone x shown i prefix c.loop-index.invariant.0 w.if-prefix-2.false)
      ],
      elim c.if-prefix.branch [
        | then-prefix+then-after-index+in_ok-put_step w ↦ subst (ArePut (IsBefore grammar c.args.production (i + 1)) old) (sym w.steps-is)
            (shown_taken grammar x c.requires.firsts c.args.production c.requires.production shown same c.from-rule.result owner i within prefix
            c.nullable_from-after.result c.loop-index.invariant.0 from (sym_of number c.index-symbols-index.result) at w.if-prefix.true
            (omega (arith, w.if-after-index.true)) old mid _ c.loop-index.invariant.1 w.in_ok-put_step.ensures.put)
        | else-prefix w ↦ subst (ArePut (IsBefore grammar c.args.production (i + 1)) old) (sym w.steps-is) (left
            (λ h. elim w.else-prefix.branch [
              | else-prefix-via-then-prefix+else-after-index w' ↦ let le = h.1 in omega (arith, le, w'.if-after-index.false)
              | else-prefix-via-else-prefix w' ↦ true≢false (sym h.0 ∙ w'.if-prefix.false)
            ])
            old mid c.loop-index.invariant.1)
      ],
      λ order fresh. elim c.if-prefix.branch [
        | then-prefix+then-after-index+in_ok-put_step w ↦ subst AreAllInOrder (sym w.steps-is)
            (w.in_ok-put_step.ensures.order (c.loop-index.invariant.2 order fresh) (λ step h. elim ((c.loop-index.invariant.1.steps c.from-rule.result step).0 h) [
              | inl k ↦ inl (fresh c.from-rule.result step k)
              | inr k ↦ inr (k.1, k.2)
            ]))
        | else-prefix w ↦ subst AreAllInOrder (sym w.steps-is) (c.loop-index.invariant.2 order fresh)
      ],
    )

pub returns-clause-put : goal.returns-clause-put
returns-clause-put g c =
    let number = g.S.Storage.number in
    let grammar = g.T.Tables.grammar c.args.tables.now in
    let symbols = c.prod-symbols.result.now in
    let same = c.prod-symbols.ensures ∙ ap (λ p. (nth_production grammar p).symbols) c.to_storage.ensures in
    let long = sym (ap length same) ∙ length-map symbols (sym_of number) in
    all_positions grammar c.args.firsts.now c.requires.firsts c.args.production c.requires.production c.loop-index.index
    (omega (arith, long, c.loop-index-test.false, c.loop-index.auto.index-end)) _ _ c.loop-index.invariant.1

pub returns-clause-order : goal.returns-clause-order
returns-clause-order g c = c.loop-index.invariant.2
