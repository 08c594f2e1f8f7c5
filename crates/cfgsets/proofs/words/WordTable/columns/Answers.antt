use Rattle.cfgsets.proofs.Flat.{rows_wide}
use Rattle.cfgsets.proofs.words.WordTable.columns.Goals as goal

pub returns-clause-wide : goal.returns-clause-wide
returns-clause-wide c = rows_wide _ _ _ _ c.self.invariant _ c.self.view_is
