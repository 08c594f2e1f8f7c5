use Rattle.std.proofs.Common.{ap}
use Rattle.constructs.specs.Construct.{goes_on}
use Rattle.bison_words.specs.Code.{line_part}
use Rattle.bison_words.proofs.Loops.{reads_start, reads_smaller, reads_on, reads_done}
use Rattle.bison_words.proofs.scanner.Scanner.line_comment.Goals as goal

pub loop-init : goal.loop-init
loop-init c = reads_start (λ _. line_part) c.args.self.now

pub loop-smaller : goal.loop-smaller
loop-smaller c = reads_smaller (λ _. line_part) goes_on c.loop.self c.line_part.new.self c.line_part.result c.line_part.ensures.read tt (ap goes_on c.loop-test.true)

pub loop-preserved : goal.loop-preserved
loop-preserved c = reads_on (λ _. line_part) goes_on c.loop.self c.line_part.new.self c.line_part.result c.line_part.ensures.read c.args.self.now c.loop.invariant c.line_part.ensures.passed tt (ap goes_on c.loop-test.true)

pub returns-clause-read : goal.returns-clause-read
returns-clause-read c = reads_done (λ _. line_part) goes_on c.loop.self c.line_part.new.self c.line_part.result c.line_part.ensures.read c.args.self.now c.loop.invariant (ap goes_on c.loop-test.false)
