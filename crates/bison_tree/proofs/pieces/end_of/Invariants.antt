use Rattle.std.proofs.Common.{length, ◌≡◌, ◌≤◌, map}
use Rattle.bison_words.specs.Words.{word_view}
use Rattle.bison_tree.specs.Productions.{end_after}
use Rattle.bison_tree.proofs.pieces.end_of.Given as goal

abbrev pub invariant-loop-left : goal.invariant-loop-left
invariant-loop-left l =
    record {
      ends : end_after (map word_view l.words) l.end l.left ≡ end_after (map word_view l.words) l.start l.parts;
      ordered : l.start ≤ l.end;
    }

abbrev pub decreases-loop-left : goal.decreases-loop-left
decreases-loop-left l = length l.left
