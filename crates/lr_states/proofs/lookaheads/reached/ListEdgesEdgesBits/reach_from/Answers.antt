use Rattle.std.proofs.Common.{◌≡◌, ℕ, [], Contains, get_or, length, arith, ap, subst}
use Rattle.std.proofs.lemmas.List.{get_or_default}
use Rattle.std.proofs.lemmas.List.Elements.{Contains-get_or}
use Rattle.search.proofs.Each.{each_more, each_none}
use Rattle.lr_states.proofs.lookaheads.reached.ListEdgesEdgesBits.reach_from.Goals as goal

pub loop-to-init : goal.loop-to-init
loop-to-init c = each_none _ _

pub reach-requires : goal.reach-requires
reach-requires c =
    let all = c.of-to-items.result.now in
    let i = c.loop-to.to-index in
    let has : Contains (get_or c.self.inside.lists.now c.args.node []) (get_or all i 0)
    = subst (λ l. Contains l (get_or all i 0)) c.of-to-items.ensures (Contains-get_or all i 0 c.loop-to-test.true) in
    let within = c.self.invariant c.args.node (get_or all i 0) has in
    omega (arith, within, c.loop-to.invariant.shape, c.requires.nodes, ap length c.self.view_is)

pub loop-to-preserved : goal.loop-to-preserved
loop-to-preserved c =
    let all = c.of-to-items.result.now in
    let i = c.loop-to.to-index in
    each_more (λ (to node : ℕ). node ≡ to) all i (get_or all i 0) _ _ _ c.loop-to-test.true (get_or_default all i 0 (get_or all i 0) c.loop-to-test.true)
    c.loop-to.invariant c.in_ok-reach.ensures
