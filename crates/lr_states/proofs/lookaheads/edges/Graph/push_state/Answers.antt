use Rattle.std.proofs.Common.{◌≡◌, [], ap, arith, get_or, length, subst}
use Rattle.lr_states.specs.Inner.Edges.{AddsEdges, Below, TargetEdge, in_graph}
use Rattle.lr_states.proofs.Adds.{below_more, below_none}
use Rattle.lr_states.proofs.lookaheads.edges.Graph.push_state.Goals as goal

pub loop-place-init : goal.loop-place-init
loop-place-init c = below_none _ _

pub loop-place-preserved : goal.loop-place-preserved
loop-place-preserved c = below_more _ c.loop-place.place _ _ _ c.loop-place.invariant c.in_ok-push_target.ensures

pub returns : goal.returns
returns c =
    let long = ap length c.targets-place-end.ensures in
    let end : c.loop-place.place ≡ length (get_or c.args.self.now.states.now.targets c.args.state []) = omega (arith, long, c.loop-place-test.false, c.loop-place.auto.place-end) in
    subst (λ m. AddsEdges (Below (in_graph TargetEdge c.args.self.now c.args.state) m) c.args.edges.now c.loop-place.edges) end c.loop-place.invariant
