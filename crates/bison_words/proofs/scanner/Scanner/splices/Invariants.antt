use Rattle.std.proofs.Common.{length}
use Rattle.bison_words.specs.Code.{splice_turn}
use Rattle.bison_words.proofs.Loops.{Reads}
use Rattle.bison_words.proofs.scanner.Scanner.splices.Given as goal

abbrev pub invariant-loop : goal.invariant-loop
invariant-loop l = Reads (λ _. splice_turn) l.fn.self l.self

abbrev pub decreases-loop : goal.decreases-loop
decreases-loop l = length l.self.rest.now
