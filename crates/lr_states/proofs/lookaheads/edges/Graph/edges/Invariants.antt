use Rattle.lr_states.specs.Inner.Edges.{AddsEdges, Below, ProductionEdge, StateEdge, in_graph}
use Rattle.lr_states.proofs.lookaheads.edges.Graph.edges.Given as goal

-- the edges of the productions so far are pushed
abbrev pub invariant-loop-production : goal.invariant-loop-production
invariant-loop-production l = AddsEdges (Below (in_graph ProductionEdge l.self) l.production) l.initial.edges l.edges

-- and those of the states so far
abbrev pub invariant-loop-state : goal.invariant-loop-state
invariant-loop-state l = AddsEdges (Below (in_graph StateEdge l.self) l.state) l.initial.edges l.edges
