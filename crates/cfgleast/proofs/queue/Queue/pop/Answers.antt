use Rattle.std.proofs.Common.{ℕ, ◌≤◌, ◌∷◌, map, subst}
use Rattle.std.specs.BinaryHeap.{heap_items}
use Rattle.std.specs.List.Sorted.{IsPermutation}
use Rattle.std.proofs.lemmas.List.Elements.{All-map}
use Rattle.std.proofs.lemmas.List.Sorted.{IsPermutation-map}
use Rattle.cfgleast.specs.Inner.Queue.{entry_of}
use Rattle.cfgleast.proofs.Queued.{bound_least}
use Rattle.cfgleast.proofs.queue.Queue.pop.Goals as goal

pub returns-clause-out : goal.returns-clause-out
returns-clause-out c = subst (λ l. IsPermutation l (c.in_ok-top.field-0.0 ∷ map entry_of (heap_items c.pop.new.self))) c.self.view_is
    (IsPermutation-map entry_of _ _ c.in_ok-top.ensures.permutation)

pub returns-clause-least : goal.returns-clause-least
returns-clause-least c = All-map (λ (entry : ℕ × ℕ). c.in_ok-top.field-0.0.0 ≤ entry.0) entry_of (heap_items c.pop.new.self)
    (bound_least c.in_ok-top.field-0 (heap_items c.pop.new.self) (c.in_ok-top.ensures.below_top c.self.invariant))
