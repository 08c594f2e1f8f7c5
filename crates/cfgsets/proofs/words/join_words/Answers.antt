use Rattle.std.proofs.Common.{refl}
use Rattle.cfgindex.proofs.Joining.{differ}
use Rattle.cfgsets.proofs.Flat.{joining_at_none, joining_at_more, joining_at_all}
use Rattle.cfgsets.proofs.words.join_words.Goals as goal

pub loop-index-init : goal.loop-index-init
loop-index-init c = joining_at_none _ _ _ _ c.requires.to c.requires.from

pub loop-index-preserved : goal.loop-index-preserved
loop-index-preserved c = joining_at_more _ _ _ _ c.requires.to c.requires.from _ _ _ _ _ _ c.requires.apart c.loop-index-test.true refl refl (differ _ _)
    c.loop-index.invariant

pub returns : goal.returns
returns c = joining_at_all _ _ _ _ c.requires.to c.requires.from _ _ _ c.loop-index-test.false c.loop-index.invariant
