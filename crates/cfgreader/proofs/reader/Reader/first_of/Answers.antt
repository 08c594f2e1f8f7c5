use Rattle.std.proofs.Common.{arith, refl}
use Rattle.cfgreader.proofs.Declared.{passed_all, passed_one, found_here}
use Rattle.cfgreader.proofs.reader.Reader.first_of.Goals as goal

pub loop-word-init : goal.loop-word-init
loop-word-init c = record { same = refl; left = refl }

pub returns-then-accept : goal.returns-then-accept
returns-then-accept c = found_here c.args.table.now c.loop-word.word-index _ c.loop-word-test.true c.args.self.now c.loop-word.self c.accept.new.self c.loop-word.invariant c.if-accept.ensures.passed

pub loop-word-preserved : goal.loop-word-preserved
loop-word-preserved c = passed_one c.args.table.now c.loop-word.word-index _ c.loop-word-test.true c.args.self.now c.loop-word.self c.accept.new.self c.loop-word.invariant c.if-accept.ensures.passed

pub returns : goal.returns
returns c = passed_all c.args.table.now c.loop-word.word-index c.args.self.now c.loop-word.self (omega arith) c.loop-word.invariant
