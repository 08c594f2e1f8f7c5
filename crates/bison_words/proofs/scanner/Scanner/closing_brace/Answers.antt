use Rattle.std.proofs.Common.{sym}
use Rattle.bison_words.specs.Code.{code_piece}
use Rattle.bison_words.proofs.NestedLoop.{nests_smaller, nests_on, nests_closed, nests_ended}
use Rattle.bison_words.proofs.scanner.Scanner.closing_brace.Goals as goal

pub loop-piece-smaller : goal.loop-piece-smaller
loop-piece-smaller c =
    let read = rw c.in-Some.is at c.in_ok-piece.ensures.read in
    nests_smaller code_piece c.args.self.now c.loop-piece.self c.code_piece.new.self c.loop-piece.depth c.loop-piece.invariant c.in-Some.piece read

pub loop-piece-preserved : goal.loop-piece-preserved
loop-piece-preserved c =
    let read = rw c.in-Some.is at c.in_ok-piece.ensures.read in
    nests_on code_piece c.args.self.now c.loop-piece.self c.code_piece.new.self c.loop-piece.depth c.loop-piece.invariant c.in-Some.piece c.in-Some-after_piece.next read c.in_ok-piece.ensures.passed (sym c.in-Some-after_piece.ensures)

pub returns-in-None-clause-read : goal.returns-in-None-clause-read
returns-in-None-clause-read c =
    let read = rw c.in-Some.is at c.in_ok-piece.ensures.read in
    nests_closed code_piece c.args.self.now c.loop-piece.self c.code_piece.new.self c.loop-piece.depth c.loop-piece.invariant c.in-Some.piece read (sym c.in-None.ensures)

pub returns-clause-read : goal.returns-clause-read
returns-clause-read c =
    let read = rw c.in_default.is at c.in_ok-piece.ensures.read in
    nests_ended code_piece c.args.self.now c.loop-piece.self c.code_piece.new.self c.loop-piece.depth c.loop-piece.invariant read
