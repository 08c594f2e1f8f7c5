use Rattle.std.proofs.Common.{◌≡◌}
use Rattle.std.specs.Slice.Iter.{chunks_rest, chunks_size}
use Rattle.cfglines.specs.Characters.{step}
use Rattle.cfglines.proofs.Counts.{CountedTo}
use Rattle.cfglines.proofs.positions.counts_of.Given as goal

abbrev pub invariant-loop-piece : goal.invariant-loop-piece
invariant-loop-piece l =
    (goal.iterator-loop-piece).can_next l.piece-iterator
    × (goal.iterator-loop-piece).is_finite l.piece-iterator
    × (chunks_size l.piece-iterator ≡ step)
    × CountedTo l.text (chunks_rest l.piece-iterator) l.counts.items l.begun
