use Rattle.std.proofs.Common.{length}
use Rattle.bison_words.proofs.QuotedLoop.{Quotes}
use Rattle.bison_words.proofs.scanner.Scanner.quoted.Given as goal

abbrev pub invariant-loop-part : goal.invariant-loop-part
invariant-loop-part l = Quotes l.close l.fn.self l.self l.parts

abbrev pub decreases-loop-part : goal.decreases-loop-part
decreases-loop-part l = length l.self.rest.now
