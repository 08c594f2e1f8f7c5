use Rattle.std.proofs.Common.{length}
use Rattle.bison_words.specs.Code.{code_piece}
use Rattle.bison_words.proofs.NestedLoop.{Nests}
use Rattle.bison_words.proofs.scanner.Scanner.closing_brace.Given as goal

abbrev pub invariant-loop-piece : goal.invariant-loop-piece
invariant-loop-piece l = Nests code_piece l.fn.self l.self l.depth

abbrev pub decreases-loop-piece : goal.decreases-loop-piece
decreases-loop-piece l = length l.self.rest.now
