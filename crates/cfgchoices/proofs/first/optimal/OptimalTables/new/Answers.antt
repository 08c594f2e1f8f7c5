use Rattle.cfgleast.specs.Generator.{tables_of}
use Rattle.cfgchoices.proofs.Known.{known}
use Rattle.cfgchoices.proofs.first.optimal.OptimalTables.new.Goals as goal

pub invariant_of-result : goal.invariant_of-result
invariant_of-result g c =
    let number = g.S.Storage.number in
    let x = tables_of number (g.T.Tables.grammar c.args.tables.now) c.args.costs.now c.args.settled.now.least.items c.args.settled.now.choices.items in (
      known number x c.args.kinds.now c.requires.kinds c.args.settled.now.number c.requires.generator c.invariant_holds.ensures.content c.in_ok-sole.sole.items _
          c.in_ok-sole.ensures.flags c.in_ok-sole.ensures.sole c.in_ok-lists.ensures.costs,
      c.in_ok-lists.ensures,
    )
