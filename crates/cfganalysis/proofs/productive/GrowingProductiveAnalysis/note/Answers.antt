use Rattle.cfgtables.proofs.Located.{all_symbols}
use Rattle.cfganalysis.proofs.productive.GrowingProductiveAnalysis.note.Goals as goal

pub note_rules-requires : goal.note_rules-requires
note_rules-requires g c = (c.requires.0, c.requires.2, all_symbols c.requires.0 _ c.requires.1 c.requires.3)
