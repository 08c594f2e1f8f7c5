use Rattle.std.proofs.Common.{rules}
use Rattle.cfgitems.specs.Syntax.{tables_of, firsts}
use Rattle.cfgitems.proofs.tables.Tables.none.Goals as goal

pub returns : goal.returns
unfolding tables_of firsts
returns c = search rules
