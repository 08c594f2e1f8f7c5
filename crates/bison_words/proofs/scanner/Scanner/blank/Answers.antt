use Rattle.std.proofs.Common.{ap}
use Rattle.constructs.specs.Construct.{goes_on}
use Rattle.bison_words.specs.Blanks.{blank_turn, blank}
use Rattle.bison_words.proofs.Loops.{passed_on, reads_start, reads_smaller, reads_on, reads_done}
use Rattle.bison_words.proofs.scanner.Scanner.blank.Goals as goal

pub loop-init : goal.loop-init
loop-init c = reads_start blank_turn c.args.self.now

pub loop-smaller : goal.loop-smaller
loop-smaller c = reads_smaller blank_turn goes_on c.loop.self c.blank_turn.new.self c.in_ok-blank_turn.field-0 c.in_ok-blank_turn.ensures.read tt (ap goes_on c.if-branch.true)

pub loop-preserved : goal.loop-preserved
loop-preserved c = reads_on blank_turn goes_on c.loop.self c.blank_turn.new.self c.in_ok-blank_turn.field-0 c.in_ok-blank_turn.ensures.read c.args.self.now c.loop.invariant c.in_ok-blank_turn.ensures.passed tt (ap goes_on c.if-branch.true)

pub returns-clause-read : goal.returns-clause-read
unfolding blank
returns-clause-read c = reads_done blank_turn goes_on c.loop.self c.blank_turn.new.self c.in_ok-blank_turn.field-0 c.in_ok-blank_turn.ensures.read c.args.self.now c.loop.invariant (ap goes_on c.if-branch.false)

pub returns-clause-passed : goal.returns-clause-passed
returns-clause-passed c = passed_on c.args.self.now c.loop.self c.blank_turn.new.self c.loop.invariant.passed c.in_ok-blank_turn.ensures.passed
