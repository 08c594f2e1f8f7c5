use Rattle.std.proofs.Common.{ap}
use Rattle.constructs.specs.Construct.{goes_on}
use Rattle.bison_words.specs.TextWords.{word_turn, words}
use Rattle.bison_words.proofs.Loops.{passed_on, reads_start, reads_smaller, reads_on, reads_done}
use Rattle.bison_words.proofs.scanner.Scanner.words.Goals as goal

pub loop-init : goal.loop-init
loop-init c = reads_start word_turn c.args.self.now

pub loop-smaller : goal.loop-smaller
loop-smaller c = reads_smaller word_turn goes_on c.loop.self c.word_turn.new.self c.in_ok-word_turn.field-0 c.in_ok-word_turn.ensures.read tt (ap goes_on c.if-branch.true)

pub loop-preserved : goal.loop-preserved
loop-preserved c = reads_on word_turn goes_on c.loop.self c.word_turn.new.self c.in_ok-word_turn.field-0 c.in_ok-word_turn.ensures.read c.args.self.now c.loop.invariant c.in_ok-word_turn.ensures.passed tt (ap goes_on c.if-branch.true)

pub returns-clause-read : goal.returns-clause-read
unfolding words
returns-clause-read c = reads_done word_turn goes_on c.loop.self c.word_turn.new.self c.in_ok-word_turn.field-0 c.in_ok-word_turn.ensures.read c.args.self.now c.loop.invariant (ap goes_on c.if-branch.false)

pub returns-clause-passed : goal.returns-clause-passed
returns-clause-passed c = passed_on c.args.self.now c.loop.self c.word_turn.new.self c.loop.invariant.passed c.in_ok-word_turn.ensures.passed
