use Rattle.std.proofs.Common.{◌≡◌, ℕ, ◌<◌, ◌≤◌, length, slice_index}
use Rattle.search.specs.Inner.Walk.{known_of}
use Rattle.search.specs.declared.walk.Known.TheVariants.{Open, Settled}
use Rattle.search.proofs.walk.Walk.settle.Given as goal

abbrev pub invariant-loop-index : goal.invariant-loop-index
invariant-loop-index l = record {
  kept : l.self ≡ record l.fn.self { known = l.self.known };
  entries : length l.self.known.items ≡ length l.fn.self.known.items;
  done : (i : ℕ) → l.start ≤ i → i < l.index → known_of l.self.known.items (slice_index l.fn.self.path.items i) ≡ Settled l.number;
  rest : (node : ℕ) → ((i : ℕ) → l.start ≤ i → i < l.index → known_of l.fn.self.known.items node ≡ Open i → ⊥)
      → known_of l.self.known.items node ≡ known_of l.fn.self.known.items node;
}
