use Rattle.std.proofs.Common.{arith}
use Rattle.std.proofs.lemmas.Grind.{common_steps}
use Rattle.cfgreader.specs.Rules.{EmptyPart, empty}
use Rattle.cfgreader.proofs.reader.Reader.empty.Goals as goal

pub returns-in_ok-add : goal.returns-in_ok-add
unfolding empty
returns-in_ok-add c = (EmptyPart c.offset-end.result, grind (arith, common_steps), c.in_ok-add.ensures, omega (arith, c.offset-end.ensures))
