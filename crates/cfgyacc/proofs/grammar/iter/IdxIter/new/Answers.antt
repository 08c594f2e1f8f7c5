use Rattle.cfgyacc.proofs.Counted.{numbers_in_order}
use Rattle.cfgyacc.proofs.grammar.iter.IdxIter.new.Goals as goal

pub returns-clause-runs : goal.returns-clause-runs
returns-clause-runs g c = numbers_in_order g.I.Index.number
