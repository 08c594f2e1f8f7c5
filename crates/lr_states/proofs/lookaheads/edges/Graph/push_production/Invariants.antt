use Rattle.lr_states.specs.Inner.Edges.{AddsEdges, Below, SymbolEdge, in_graph}
use Rattle.lr_states.proofs.lookaheads.edges.Graph.push_production.Given as goal

-- the edges by the symbols so far are pushed
abbrev pub invariant-loop-read : goal.invariant-loop-read
invariant-loop-read l = AddsEdges (Below (in_graph SymbolEdge l.self l.production) l.read) l.initial.edges l.edges
