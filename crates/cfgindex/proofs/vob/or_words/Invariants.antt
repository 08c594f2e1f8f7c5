use Rattle.cfgindex.proofs.Joining.{Joining}
use Rattle.cfgindex.proofs.vob.or_words.Given as goal

abbrev pub invariant-loop-index : goal.invariant-loop-index
invariant-loop-index l = Joining l.index l.fn.words l.others l.words l.changed
