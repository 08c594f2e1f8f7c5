use Rattle.bison_words.specs.Code.{code_piece}
use Rattle.bison_words.proofs.Loops.{reads_start, reads_smaller, reads_on, reads_done}
use Rattle.bison_words.proofs.scanner.Scanner.code_pieces.Goals as goal

pub loop-piece-init : goal.loop-piece-init
loop-piece-init c = reads_start code_piece c.args.self.now

pub loop-piece-smaller : goal.loop-piece-smaller
loop-piece-smaller c = reads_smaller code_piece (λ x. x) c.loop-piece.self c.code_piece.new.self c.in_ok-_piece.field-0 c.in_ok-_piece.ensures.read c.in-Some._piece c.in-Some.is

pub loop-piece-preserved : goal.loop-piece-preserved
loop-piece-preserved c = reads_on code_piece (λ x. x) c.loop-piece.self c.code_piece.new.self c.in_ok-_piece.field-0 c.in_ok-_piece.ensures.read c.args.self.now c.loop-piece.invariant c.in_ok-_piece.ensures.passed c.in-Some._piece c.in-Some.is

pub returns-clause-read : goal.returns-clause-read
returns-clause-read c = reads_done code_piece (λ x. x) c.loop-piece.self c.code_piece.new.self c.in_ok-_piece.field-0 c.in_ok-_piece.ensures.read c.args.self.now c.loop-piece.invariant c.in_default.is
