use Rattle.std.proofs.Common.{ap}
use Rattle.constructs.specs.Construct.{goes_on}
use Rattle.bison_words.specs.Code.{splice_turn, splices}
use Rattle.bison_words.proofs.Loops.{reads_start, reads_smaller, reads_on, reads_done}
use Rattle.bison_words.proofs.scanner.Scanner.splices.Goals as goal

pub loop-init : goal.loop-init
loop-init c = reads_start (λ _. splice_turn) c.args.self.now

pub loop-smaller : goal.loop-smaller
loop-smaller c = reads_smaller (λ _. splice_turn) goes_on c.loop.self c.splice_turn.new.self c.splice_turn.result c.splice_turn.ensures.read tt (ap goes_on c.loop-test.true)

pub loop-preserved : goal.loop-preserved
loop-preserved c = reads_on (λ _. splice_turn) goes_on c.loop.self c.splice_turn.new.self c.splice_turn.result c.splice_turn.ensures.read c.args.self.now c.loop.invariant c.splice_turn.ensures.passed tt (ap goes_on c.loop-test.true)

pub returns-clause-read : goal.returns-clause-read
unfolding splices
returns-clause-read c = reads_done (λ _. splice_turn) goes_on c.loop.self c.splice_turn.new.self c.splice_turn.result c.splice_turn.ensures.read c.args.self.now c.loop.invariant (ap goes_on c.loop-test.false)
