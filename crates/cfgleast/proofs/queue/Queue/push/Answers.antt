use Rattle.std.proofs.Common.{◌∷◌, map, subst}
use Rattle.std.specs.BinaryHeap.{heap_items}
use Rattle.std.specs.List.Sorted.{IsPermutation}
use Rattle.std.proofs.lemmas.List.Sorted.{IsPermutation-map}
use Rattle.cfgleast.specs.Inner.Queue.{entry_of}
use Rattle.cfgleast.proofs.queue.Queue.push.Goals as goal

pub returns : goal.returns
returns c = subst (λ l. IsPermutation ((c.args.sum, c.args.production) ∷ l) (map entry_of (heap_items c.push.new.self))) c.self.view_is
    (IsPermutation-map entry_of _ _ c.in_ok-push.ensures.permutation)
