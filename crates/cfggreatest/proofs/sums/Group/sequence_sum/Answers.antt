use Rattle.std.proofs.Common.{◌<◌, ◌≤◌, ◌∙◌, List, [], ◌∷◌, ◌++◌, Ok, map, take, length, sym, ap, subst, arith}
use Rattle.std.specs.List.{slice_index}
use Rattle.std.proofs.lemmas.Result.{err_from_is_err_and}
use Rattle.derivation.specs.Grammar.{Sym}
use Rattle.cfgtables.specs.NumberedSymbols.{sym_of}
use Rattle.cfgtables.proofs.Slices.{mapped_at, mapped_within}
use Rattle.derivation.specs.CostLists.{IsListed}
use Rattle.derivation.proofs.Sequences.{shown_holds}
use Rattle.cfggreatest.specs.Inner.Sums.{IsSum, known_in}
use Rattle.cfggreatest.proofs.Summing.{next_taken, sum_inside, sum_none, sum_outside, sum_whole}
use Rattle.cfggreatest.proofs.sums.Group.sequence_sum.Goals as goal
use Rattle.cfggreatest.proofs.sums.Group.sequence_sum.Goals.{in-Some, in-None}

pub symbol_cost-requires-clause-symbol : goal.symbol_cost-requires-clause-symbol
symbol_cost-requires-clause-symbol g c = shown_holds (sym_of g.S.Storage.number) _ _ _ c.loop-symbol-test.true c.symbol-item.is
    (IsListed (length c.args.self.now.numbers.now) (length c.args.self.now.costs.now)) c.requires.symbols

pub loop-symbol-init : goal.loop-symbol-init
loop-symbol-init g c = record { few = omega arith; sum = sum_none (slice_index c.args.self.now.costs.now) (known_in c.args.self.now) }

pub returns-in_err-cost : goal.returns-in_err-cost
returns-in_err-cost g c =
    let p = err_from_is_err_and c.from_residual.result c.from_residual.ensures.1 in
    let lt : c.loop-symbol.symbol-index < length c.args.symbols.now = c.loop-symbol-test.true in
    rw p.1 (
      sym_of g.S.Storage.number c.symbol-item.result,
      (
        c.loop-symbol.symbol-index,
        mapped_within (sym_of g.S.Storage.number) c.args.symbols.now _ _ c.symbol-item.is lt,
        sym (mapped_at (sym_of g.S.Storage.number) c.args.symbols.now _ _ c.symbol-item.is lt),
      ),
      sym c.in_err-cost.ensures,
    )

pub loop-symbol-preserved : goal.loop-symbol-preserved
loop-symbol-preserved g c =
    let cost = slice_index c.args.self.now.costs.now in
    let known = known_in c.args.self.now in
    let next = next_taken (sym_of g.S.Storage.number) c.args.symbols.now c.loop-symbol.symbol-index c.symbol-item.result c.loop-symbol-test.true c.symbol-item.is in
    let sequence = take c.loop-symbol.symbol-index (map (sym_of g.S.Storage.number) c.args.symbols.now) in
    let s = sym_of g.S.Storage.number c.symbol-item.result in
    let few : c.loop-symbol.inner ≤ c.loop-symbol.symbol-index = c.loop-symbol.invariant.few in
    elim c.match-branch-2.branch [
      | in-Some w ↦ record {
        few = omega (arith, w.inner-is, few);
        sum = subst (λ (a : List Sym). IsSum cost known a c.match-branch-2.outer c.match-branch-2.inner) (sym next)
            (subst (IsSum cost known (sequence ++ s ∷ []) c.match-branch-2.outer) (sym w.inner-is)
            (sum_outside cost known sequence s c.loop-symbol.outer c.loop-symbol.inner c.loop-symbol.invariant.sum w.in-Some.cost _ (sym c.in_ok-cost.ensures ∙ ap Ok w.in-Some.is)
            (w.outer-is ∙ w.cut_sum-outer.ensures)));
      }
      | in-None w ↦ record {
        few = omega (arith, w.inner-is, few);
        sum = subst (λ (a : List Sym). IsSum cost known a c.match-branch-2.outer c.match-branch-2.inner) (sym next)
            (subst (λ n. IsSum cost known (sequence ++ s ∷ []) n c.match-branch-2.inner) (sym w.outer-is)
            (subst (IsSum cost known (sequence ++ s ∷ []) c.loop-symbol.outer) (sym w.inner-is)
            (sum_inside cost known sequence s c.loop-symbol.outer c.loop-symbol.inner c.loop-symbol.invariant.sum (sym c.in_ok-cost.ensures ∙ ap Ok w.in-None.is))));
      }
    ]

pub returns : goal.returns
returns g c = sum_whole (slice_index c.args.self.now.costs.now) (known_in c.args.self.now) (sym_of g.S.Storage.number) c.args.symbols.now c.loop-symbol.symbol-index _ _
    c.loop-symbol-test.false c.loop-symbol.invariant.sum
