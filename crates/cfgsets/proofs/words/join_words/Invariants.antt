use Rattle.cfgsets.proofs.Flat.{JoiningAt}
use Rattle.cfgsets.proofs.words.join_words.Given as goal

abbrev pub invariant-loop-index : goal.invariant-loop-index
invariant-loop-index l = JoiningAt l.to l.from l.many l.index l.fn.words l.words l.changed
