use Rattle.cfglint_shell.specs.KindCounts.{kinds}
use Rattle.cfglint_shell.proofs.KindsListed.{after_kind, past_kind, past_kinds}
use Rattle.cfglint_shell.proofs.summary.write_listed.Goals as goal

pub loop-kind-preserved-then-count-eq0 : goal.loop-kind-preserved-then-count-eq0
loop-kind-preserved-then-count-eq0 c =
    past_kind c.args.counts.now kinds c.loop-kind.kind-index c.loop-kind.is_first _ _ c.loop-kind.invariant _ c.loop-kind-test.true
    c.of-count.result c.of-count.ensures c.if-count-eq0.true

pub loop-kind-preserved : goal.loop-kind-preserved
loop-kind-preserved c =
    rw c.in_ok-write_kind.ensures
    (after_kind c.args.counts.now kinds c.loop-kind.kind-index c.loop-kind.is_first _ _ c.loop-kind.invariant _ c.loop-kind-test.true
    c.of-count.result c.of-count.ensures c.if-count-eq0.false)

pub returns : goal.returns
returns c = past_kinds c.args.counts.now kinds c.loop-kind.kind-index c.loop-kind.is_first _ _ c.loop-kind.invariant c.loop-kind-test.false
