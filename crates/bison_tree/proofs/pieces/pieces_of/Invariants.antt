use Rattle.std.proofs.Common.{◌≡◌, ◌++◌, length}
use Rattle.bison_tree.specs.Productions.{inners_after, pieces_after}
use Rattle.bison_tree.proofs.pieces.pieces_of.Given as goal

-- the pieces so far, and those of the parts that are left
abbrev pub invariant-loop-left : goal.invariant-loop-left
invariant-loop-left l =
    record {
      pieces : l.pieces.items ++ pieces_after (length l.inners.items) l.left ≡ pieces_after (length l.fn.inners.items) l.fn.parts;
      counted : inners_after (length l.inners.items) l.left ≡ inners_after (length l.fn.inners.items) l.fn.parts;
    }

abbrev pub decreases-loop-left : goal.decreases-loop-left
decreases-loop-left l = length l.left
