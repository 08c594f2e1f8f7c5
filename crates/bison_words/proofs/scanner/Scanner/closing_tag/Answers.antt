use Rattle.std.proofs.Common.{sym}
use Rattle.bison_words.specs.Brackets.{tag_piece}
use Rattle.bison_words.proofs.NestedLoop.{nests_smaller, nests_on, nests_closed, nests_ended}
use Rattle.bison_words.proofs.scanner.Scanner.closing_tag.Goals as goal

pub loop-piece-smaller : goal.loop-piece-smaller
loop-piece-smaller c = nests_smaller (λ _. tag_piece) c.args.self.now c.loop-piece.self c.tag_piece.new.self c.loop-piece.depth c.loop-piece.invariant c.in-Some.piece c.in-Some.ensures.read

pub loop-piece-preserved : goal.loop-piece-preserved
loop-piece-preserved c = nests_on (λ _. tag_piece) c.args.self.now c.loop-piece.self c.tag_piece.new.self c.loop-piece.depth c.loop-piece.invariant c.in-Some.piece c.in-Some-after_piece.next c.in-Some.ensures.read c.in-Some.ensures.passed (sym c.in-Some-after_piece.ensures)

pub returns-in-None-clause-read : goal.returns-in-None-clause-read
returns-in-None-clause-read c = nests_closed (λ _. tag_piece) c.args.self.now c.loop-piece.self c.tag_piece.new.self c.loop-piece.depth c.loop-piece.invariant c.in-Some.piece c.in-Some.ensures.read (sym c.in-None.ensures)

pub returns-clause-read : goal.returns-clause-read
returns-clause-read c = nests_ended (λ _. tag_piece) c.args.self.now c.loop-piece.self c.tag_piece.new.self c.loop-piece.depth c.loop-piece.invariant c.in_default.ensures.read
