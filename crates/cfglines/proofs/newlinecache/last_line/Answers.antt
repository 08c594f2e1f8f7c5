use Rattle.std.proofs.Common.{◌∙◌, arith}
use Rattle.cfglines.proofs.LastLine.{after_last_some, after_last_none}
use Rattle.cfglines.proofs.newlinecache.last_line.Goals as goal

pub returns-in-Some : goal.returns-in-Some
returns-in-Some c = let split = c.in-Some.ensures.cases in split.4 ∙ after_last_some _ split.0 split.1 (omega arith) split.2

pub returns-in-None : goal.returns-in-None
returns-in-None c = after_last_none _ c.in-None.ensures.cases
