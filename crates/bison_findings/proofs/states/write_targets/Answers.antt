use Rattle.std.proofs.lemmas.List.Elements.{Contains-get_or}
use Rattle.bison_findings.proofs.states.write_targets.Goals as goal

pub write_target-requires : goal.write_target-requires
write_target-requires c = c.requires _ (Contains-get_or c.args.targets.now c.loop-target.target-index _ c.loop-target-test.true)
