use Rattle.std.proofs.Common.{◌≤◌, length}
use Rattle.cfgleast.specs.Generator.{tables_of}
use Rattle.cfgchoices.specs.Inner.Lists.{AreLists}
use Rattle.cfgchoices.proofs.first.lists.Lists.new.Given as goal

abbrev pub invariant-loop-left : goal.invariant-loop-left
invariant-loop-left g l = record {
  lists : AreLists g.S.Storage.number (tables_of g.S.Storage.number (g.T.Tables.grammar l.tables) l.costs l.settled.least.items l.settled.choices.items) l.left l.lists;
  left : l.left ≤ length l.kinds;
}

abbrev pub decreases-loop-left : goal.decreases-loop-left
decreases-loop-left g l = l.left
