use Rattle.generator_tools.proofs.Conditions.{ll1_by_conditions}
use Rattle.generator_tools.proofs.ll1.tables_meet_the_conditions.Goals as goal

pub returns : goal.returns
returns c = ll1_by_conditions
