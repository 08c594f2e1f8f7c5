use Rattle.std.proofs.lemmas.List.Elements.{AllZip-push}
use Rattle.cfgkinds.proofs.KindLemmas.{kind_unless-wrong, reported_passed, reported_pushed, reported_some, out_of_memory}
use Rattle.cfgkinds.proofs.kinds.judged.Goals as goal

pub returns-in_err-clone-clause-err : goal.returns-in_err-clone-clause-err
returns-in_err-clone-clause-err g c =
    let some = reported_some c.args.parts.now c.loop-part.part-index c.part-item.result c.loop-part-test.true c.part-item.is c.in-Some.location c.in-Some.is in
    out_of_memory g.T.Clone.is_clone c.from_residual.result _ _ c.from_residual.ensures.1 (kind_unless-wrong _ c.args.kind some)

pub returns-in_err-push-clause-err : goal.returns-in_err-push-clause-err
returns-in_err-push-clause-err g c =
    let some = reported_some c.args.parts.now c.loop-part.part-index c.part-item.result c.loop-part-test.true c.part-item.is c.in-Some.location c.in-Some.is in
    out_of_memory g.T.Clone.is_clone c.from_residual-in_err-push.result _ _ c.from_residual-in_err-push.ensures.1 (kind_unless-wrong _ c.args.kind some)

pub loop-part-preserved : goal.loop-part-preserved
loop-part-preserved g c =
    rw (reported_pushed c.args.parts.now c.loop-part.part-index c.part-item.result c.loop-part-test.true c.part-item.is c.in-Some.location c.in-Some.is, c.in_ok-push.ensures.items)
    (AllZip-push g.T.Clone.is_clone _ c.loop-part.locations.items c.in-Some.location.now _ c.loop-part.invariant c.in_ok-clone.ensures.cases)

pub loop-part-preserved-in_default : goal.loop-part-preserved-in_default
loop-part-preserved-in_default g c =
    rw (reported_passed c.args.parts.now c.loop-part.part-index c.part-item.result c.loop-part-test.true c.part-item.is c.in_default.is) c.loop-part.invariant
