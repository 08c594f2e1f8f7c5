use Rattle.lr_states.specs.Inner.Edges.{AddsEdges, Below, TargetEdge, in_graph}
use Rattle.lr_states.proofs.lookaheads.edges.Graph.push_state.Given as goal

-- the edges by the targets so far are pushed
abbrev pub invariant-loop-place : goal.invariant-loop-place
invariant-loop-place l = AddsEdges (Below (in_graph TargetEdge l.self l.state) l.place) l.fn.edges l.edges
