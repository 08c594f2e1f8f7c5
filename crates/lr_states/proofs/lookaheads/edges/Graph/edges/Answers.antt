use Rattle.std.proofs.Common.{◌≡◌, arith, length, subst}
use Rattle.std.proofs.lemmas.List.{length-map}
use Rattle.cfgrammar.specs.Numbered.{core, production_core}
use Rattle.lr_states.specs.Inner.Edges.{AddsEdges, Below, EndEdge, ProductionEdge, StateEdge, in_graph}
use Rattle.lr_states.specs.Viable.{IsUsed}
use Rattle.lr_states.specs.Inner.Numbers.{numbers_of}
use Rattle.lr_states.proofs.Adds.{adds_then, below_more, below_none}
use Rattle.lr_states.proofs.Pushed.{all_edges}
use Rattle.lr_states.proofs.lookaheads.edges.Graph.edges.Goals as goal

pub loop-production-init : goal.loop-production-init
loop-production-init c = below_none _ _

pub loop-production-preserved : goal.loop-production-preserved
loop-production-preserved c = below_more _ c.loop-production.production _ _ _ c.loop-production.invariant c.in_ok-push_production.ensures

pub loop-state-init : goal.loop-state-init
loop-state-init c = below_none _ _

pub loop-state-preserved : goal.loop-state-preserved
loop-state-preserved c = below_more _ c.loop-state.state _ _ _ c.loop-state.invariant c.in_ok-push_state.ensures

pub returns-clause-edges : goal.returns-clause-edges
returns-clause-edges c =
    let x = c.args.self.now in
    let g = core x.grammar.now in
    let last : c.loop-production.production ≡ length g.productions =
    omega (arith, c.loop-production-test.false, c.loop-production.auto.production-end, c.from-production-end.ensures, c.prods_len.ensures, length-map x.grammar.now.productions production_core) in
    let end : c.loop-state.state ≡ length x.states.now.states = omega (arith, c.loop-state-test.false, c.loop-state.auto.state-end, c.len-state-end.ensures) in
    all_edges g (IsUsed g) (numbers_of x.nodes.now) x.states.now x.nodes.now.len c.loop-state.edges
    (adds_then _ _ _ _ _
    (adds_then _ _ _ _ _
    (subst (λ l. AddsEdges (in_graph EndEdge x) l c.push_end.new.edges) c.in_ok-edges.ensures c.in_ok-push_end.ensures)
    (subst (λ m. AddsEdges (Below (in_graph ProductionEdge x) m) c.push_end.new.edges c.loop-production.edges) last c.loop-production.invariant))
    (subst (λ m. AddsEdges (Below (in_graph StateEdge x) m) c.loop-production.edges c.loop-state.edges) end c.loop-state.invariant))
