use Rattle.std.proofs.Common.{length, ap, sym, subst, ◌<◌, ◌∙◌, IsTrue, get_or, false, refl}
use Rattle.search.proofs.Reaching.{search_begins, popped_within, search_goes_on, less_to_do, search_ends}
use Rattle.search.proofs.searching.Search.go_on.Goals as goal

pub loop-node-init : goal.loop-node-init
loop-node-init g c = search_begins _ _ _ _ _ (record { shape = refl; seeds = λ n. (λ h. h, λ h. h); all_wait = c.requires.all_wait })

pub reach_from-requires-clause-node : goal.reach_from-requires-clause-node
reach_from-requires-clause-node g c =
    subst (λ m. c.in-Some.node < m) c.requires.nodes (popped_within _ _ _ _ _ _ c.next.new.self c.loop-node.invariant c.in-Some.ensures.waiting)

pub loop-node-preserved : goal.loop-node-preserved
loop-node-preserved g c = search_goes_on _ _ _ _ _ _ _ c.loop-node.invariant c.in-Some.ensures.waiting _ _ (λ n h. h) tt c.in-Some.ensures.reachable c.in_ok-reach_from.ensures

pub loop-node-smaller : goal.loop-node-smaller
loop-node-smaller g c = less_to_do _ _ _ _ _ c.in-Some.ensures.reachable c.in-Some.ensures.waiting c.in_ok-reach_from.ensures

pub returns-clause-nodes : goal.returns-clause-nodes
returns-clause-nodes g c = ap length c.in_default.ensures.reachable ∙ c.loop-node.invariant.shape

pub returns-clause-reachable : goal.returns-clause-reachable
returns-clause-reachable g c n = (
  (λ h. c.loop-node.invariant.sound n (subst (λ l. IsTrue (get_or l n false)) c.in_default.ensures.reachable h)),
  (λ h. subst (λ l. IsTrue (get_or l n false)) (sym c.in_default.ensures.reachable) (search_ends _ _ _ _ _ c.loop-node.invariant c.in_default.ensures.waiting h).0),
)
