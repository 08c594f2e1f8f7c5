use Rattle.std.proofs.Common.{length}
use Rattle.bison_words.specs.Brackets.{tag_piece}
use Rattle.bison_words.proofs.NestedLoop.{Nests}
use Rattle.bison_words.proofs.scanner.Scanner.closing_tag.Given as goal

abbrev pub invariant-loop-piece : goal.invariant-loop-piece
invariant-loop-piece l = Nests (λ _. tag_piece) l.fn.self l.self l.depth

abbrev pub decreases-loop-piece : goal.decreases-loop-piece
decreases-loop-piece l = length l.self.rest.now
