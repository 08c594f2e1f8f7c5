use Rattle.std.proofs.Common.{◌≡◌, length}
use Rattle.lr_states.specs.Inner.Numbers.{AreBlocks}
use Rattle.lr_states.proofs.lookaheads.nodes.Nodes.of.Given as goal

-- the states so far have their nodes
abbrev pub invariant-loop-state : goal.invariant-loop-state
invariant-loop-state l = record {
  count : length l.blocks.items ≡ l.state;
  blocks : AreBlocks l.rules l.states l.initial.len l.blocks.items l.len;
}
