use Rattle.std.proofs.Common.{take}
use Rattle.cfgchoices.specs.Kinds.{production_numbers}
use Rattle.cfgcosts.proofs.OnlyTargets.{OnlyOne}
use Rattle.cfgcosts.proofs.targets.only_target.Given as goal

abbrev pub invariant-loop-p : goal.invariant-loop-p
invariant-loop-p g l = OnlyOne l.kinds (take l.p-index (production_numbers g.S.Storage.number l.p-items)) l.only
