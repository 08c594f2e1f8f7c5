use Rattle.cfgrammar.specs.Numbered.{core}
use Rattle.lr_states.specs.Inner.Numbers.{AreReady, numbers_of}
use Rattle.lr_states.proofs.Whole.{are_lookaheads, edges_within, tokens_within}
use Rattle.lr_states.proofs.lookaheads.Lookaheads.of.Goals.{In_ok-nodes}
use Rattle.lr_states.proofs.lookaheads.Lookaheads.of.Goals as goal

ready : (c : In_ok-nodes) → AreReady (core c.args.grammar.now) c.in_ok-states.states (numbers_of c.in_ok-nodes.nodes)
ready c = record {
  grammar = c.invariant_holds.ensures.whole.grammar;
  states = c.in_ok-states.ensures.states;
  gotos = c.in_ok-states.ensures.gotos;
  targets = c.in_ok-states.ensures.targets;
  numbers = c.in_ok-nodes.ensures;
}

pub of-requires-3-clause-within : goal.of-requires-3-clause-within
of-requires-3-clause-within c =
    edges_within (core c.args.grammar.now) c.in_ok-states.states (numbers_of c.in_ok-nodes.nodes) (ready (goal.at.of-requires-3-clause-within c).In_ok-nodes)
    c.in_ok-edges.edges c.in_ok-edges.ensures.nodes c.in_ok-edges.ensures.edges

pub of-requires-3-clause-bound : goal.of-requires-3-clause-bound
of-requires-3-clause-bound c =
    tokens_within (core c.args.grammar.now) c.in_ok-states.states (numbers_of c.in_ok-nodes.nodes) (ready (goal.at.of-requires-3-clause-bound c).In_ok-nodes)
    c.in_ok-edges.edges c.in_ok-edges.ensures.nodes c.in_ok-edges.ensures.edges

pub returns-clause-lookaheads : goal.returns-clause-lookaheads
returns-clause-lookaheads c =
    are_lookaheads (core c.args.grammar.now) c.in_ok-states.states (numbers_of c.in_ok-nodes.nodes) (ready (goal.at.returns-clause-lookaheads c).In_ok-nodes)
    c.in_ok-edges.edges c.in_ok-edges.ensures.nodes c.in_ok-edges.ensures.edges c.in_ok-reached.reached c.in_ok-reached.ensures.rows
