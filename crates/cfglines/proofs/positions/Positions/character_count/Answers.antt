use Rattle.std.proofs.Common.{subst, arith}
use Rattle.std.specs.Str.{IsUtf8}
use Rattle.cfglines.specs.Lines.{StandsFor}
use Rattle.cfglines.proofs.LineEnds.{line_start-le}
use Rattle.cfglines.proofs.LinePrefixes.{prefix_begins}
use Rattle.cfglines.proofs.positions.Positions.character_count.Goals as goal

pub begun_between-requires-clause-order : goal.begun_between-requires-clause-order
begun_between-requires-clause-order c =
    let start = c.line_start-start.ensures _ (subst (StandsFor _) c.self.view_is c.self.invariant.1) in
    omega (arith, start, line_start-le c.args.self.now c.args.byte)

pub returns : goal.returns
returns c =
    let start = c.line_start-start.ensures _ (subst (StandsFor _) c.self.view_is c.self.invariant.1) in
    let begun = rw start at c.begun_between.ensures in
    let prefix = prefix_begins c.args.self.now c.args.byte (subst IsUtf8 c.self.view_is c.self.invariant.0) c.requires in
    omega (arith, begun, prefix)
