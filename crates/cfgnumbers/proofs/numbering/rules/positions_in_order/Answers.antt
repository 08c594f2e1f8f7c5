use Rattle.std.specs.List.{range_with_len}
use Rattle.std.proofs.Common.{arith, ap, ◌∷◌, ◌++◌, [], sym, ◌∙◌}
use Rattle.cfgindex.specs.declared.idxnewtype.PIdx.{PIdx}
use Rattle.lemmas.proofs.Roads.{pushed_shown}
use Rattle.cfgnumbers.proofs.RowLemmas.{range-push}
use Rattle.cfgnumbers.proofs.numbering.rules.positions_in_order.Goals as goal

pub loop-index-preserved : goal.loop-index-preserved
loop-index-preserved g c =
    pushed_shown (λ (p : PIdx g.row.S.Denot). g.S.Storage.number p.0) c.loop-index.prods.items c.push.new.self.items (record { 0 = c.to_storage.result }) c.in_ok-push.ensures.items
    ∙ (λ i. c.loop-index.invariant i ++ c.to_storage.ensures i ∷ [])
    ∙ sym (range-push c.args.first c.loop-index.index)

pub returns : goal.returns
returns g c =
    c.loop-index.invariant ∙ ap (range_with_len c.args.first) (omega (arith, c.loop-index-test.false, c.loop-index.auto.index-end))
