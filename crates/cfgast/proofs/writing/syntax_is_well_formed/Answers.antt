use Rattle.cfgast.proofs.WellFormedLemmas.{syntax_of-IsWellFormed}
use Rattle.cfgast.proofs.writing.syntax_is_well_formed.Goals as goal

pub returns : goal.returns
returns c = syntax_of-IsWellFormed
