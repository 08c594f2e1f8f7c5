use Rattle.cfgsets.proofs.Flat.{rows_are}
use Rattle.cfgsets.proofs.words.WordTable.rows.Goals as goal

pub returns : goal.returns
returns c = rows_are _ _ _ _ c.self.invariant _ c.self.view_is
