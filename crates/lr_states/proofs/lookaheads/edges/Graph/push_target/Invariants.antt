use Rattle.lr_states.specs.Inner.Edges.{AddsEdges, Below, KernelEdge, in_graph}
use Rattle.lr_states.proofs.lookaheads.edges.Graph.push_target.Given as goal

-- the edges by the items so far are pushed
abbrev pub invariant-loop-index : goal.invariant-loop-index
invariant-loop-index l = AddsEdges (Below (in_graph KernelEdge l.self l.state l.place l.target) l.index) l.fn.edges l.edges
