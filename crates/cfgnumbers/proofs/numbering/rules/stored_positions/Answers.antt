use Rattle.std.proofs.Common.{◌∷◌, ◌++◌, [], sym, ◌∙◌}
use Rattle.std.proofs.lemmas.List.{take_more}
use Rattle.cfgindex.specs.declared.idxnewtype.PIdx.{PIdx}
use Rattle.lemmas.proofs.Roads.{pushed_shown}
use Rattle.cfgnumbers.proofs.numbering.rules.stored_positions.Goals as goal
use Rattle.std.proofs.lemmas.List.{take_all}

pub loop-index-preserved : goal.loop-index-preserved
loop-index-preserved g c =
    pushed_shown (λ (p : PIdx g.row.S.Denot). g.S.Storage.number p.0) c.loop-index.prods.items c.push.new.self.items (record { 0 = c.to_storage.result }) c.in_ok-push.ensures.items
    ∙ (λ i. c.loop-index.invariant i ++ c.to_storage.ensures i ∷ [])
    ∙ sym (take_more c.args.positions.now c.loop-index.index-index 0 c.loop-index-test.true)

pub returns : goal.returns
returns g c = c.loop-index.invariant ∙ take_all c.loop-index.index-index c.args.positions.now c.loop-index-test.false
