use Rattle.std.proofs.Common.{refl}
use Rattle.cfgindex.proofs.Joining.{joining_more, joining_all, joining_grew, differ}
use Rattle.cfgindex.proofs.vob.or_words.Goals as goal

pub loop-index-preserved : goal.loop-index-preserved
loop-index-preserved c =
    joining_more _ _ _ _ _ _ _ _ c.loop-index-test.true c.requires refl refl (differ _ _) c.loop-index.invariant

pub returns-clause-joined : goal.returns-clause-joined
returns-clause-joined c = joining_all _ _ _ _ _ c.loop-index-test.false c.loop-index.invariant

pub returns-clause-changed : goal.returns-clause-changed
returns-clause-changed c = joining_grew _ _ _ _ _ c.loop-index.invariant
