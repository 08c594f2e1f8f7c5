use Rattle.std.proofs.Common.{arith}
use Rattle.std.proofs.lemmas.Grind.{common_steps}
use Rattle.cfgrender.proofs.Reported.{heading_of_offset, heading_of_none}
use Rattle.cfgrender.proofs.source.Source.push_heading.Goals as goal

pub returns-in-Some : goal.returns-in-Some
returns-in-Some c =
    let source = c.args.self.now in
    rw (heading_of_offset source.unit source.name.now source.text c.args.offset c.in-Some.ensures.0) (grind (arith, common_steps))

pub returns-in-None : goal.returns-in-None
returns-in-None c =
    let source = c.args.self.now in
    rw (heading_of_none source.unit source.name.now source.text c.args.offset c.in-None.ensures) (grind (arith, common_steps))
