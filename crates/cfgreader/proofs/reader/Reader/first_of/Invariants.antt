use Rattle.cfgreader.proofs.Declared.{Passed}
use Rattle.cfgreader.proofs.reader.Reader.first_of.Given as goal

abbrev pub invariant-loop-word : goal.invariant-loop-word
invariant-loop-word l = Passed l.table l.word-index l.fn.self l.self
