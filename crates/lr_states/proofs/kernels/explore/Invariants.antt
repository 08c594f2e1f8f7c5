use Rattle.std.proofs.Common.{◌≡◌, length, map}
use Rattle.cfgrammar.specs.Numbered.{core}
use Rattle.lr_states.specs.Viable.{IsUsed}
use Rattle.lr_states.specs.Inner.Kernels.{AreGoing}
use Rattle.lr_states.proofs.Explored.{AreExplored}
use Rattle.lr_states.proofs.kernels.explore.Given as goal

-- the kernels so far are those of viable prefixes, and the first ones are visited
abbrev pub invariant-loop-number : goal.invariant-loop-number
invariant-loop-number l = record {
  count : length l.states.items ≡ l.number;
  explored : AreExplored (core l.used.grammar.now) (IsUsed (core l.used.grammar.now)) (map (λ key. key.items) l.kernels.keys) (map (λ v. v.items.items) l.states.items);
  going : AreGoing (core l.used.grammar.now) (map (λ key. key.items) l.kernels.keys) (map (λ v. v.items.items) l.states.items) (map (λ v. v.targets.items) l.states.items);
}
