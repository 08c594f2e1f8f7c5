use Rattle.std.proofs.Common.{length}
use Rattle.bison_words.specs.Code.{code_piece}
use Rattle.bison_words.proofs.Loops.{Reads}
use Rattle.bison_words.proofs.scanner.Scanner.code_pieces.Given as goal

abbrev pub invariant-loop-piece : goal.invariant-loop-piece
invariant-loop-piece l = Reads code_piece l.fn.self l.self

abbrev pub decreases-loop-piece : goal.decreases-loop-piece
decreases-loop-piece l = length l.self.rest.now
