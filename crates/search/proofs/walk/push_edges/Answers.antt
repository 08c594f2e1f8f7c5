use Rattle.std.proofs.Common.{arith, ap, length}
use Rattle.std.proofs.lemmas.List.{length_push}
use Rattle.search.proofs.Pushing.{adding_begins, adding_ends, adding_goes_on, queued_within}
use Rattle.search.proofs.walk.push_edges.Goals as goal

pub loop-to-init : goal.loop-to-init
loop-to-init g c = adding_begins _ _ _ _ _ _ c.requires.targets c.in_ok-reach_from.ensures

pub forget-requires : goal.forget-requires
forget-requires g c = queued_within _ _ _ _ _ _ c.loop-to.invariant

pub loop-to-preserved : goal.loop-to-preserved
loop-to-preserved g c = adding_goes_on _ _ _ _ _ _ _ _ _ c.in-Some.ensures.0 c.in-Some.ensures.1 c.in_ok-push.ensures.items c.loop-to.invariant

pub loop-to-smaller : goal.loop-to-smaller
loop-to-smaller g c =
    let taken = ap length c.in-Some.ensures.0 in
    omega (arith, taken, length_push c.forget.new.self.waiting c.in-Some.to)

pub returns-clause-pending : goal.returns-clause-pending
returns-clause-pending g c = (adding_ends _ _ _ _ _ _ _ c.in_default.ensures.0 c.in_default.ensures.1 c.loop-to.invariant).0

pub returns-clause-targets : goal.returns-clause-targets
returns-clause-targets g c = (adding_ends _ _ _ _ _ _ _ c.in_default.ensures.0 c.in_default.ensures.1 c.loop-to.invariant).1
