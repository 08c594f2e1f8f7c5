use Rattle.std.proofs.Common.{take}
use Rattle.cfgchoices.specs.Kinds.{production_numbers}
use Rattle.cfgcosts.proofs.Components.{AreOptimal}
use Rattle.cfgcosts.proofs.generator.SentenceGenerator.optimal_productions.Given as goal

abbrev pub invariant-loop-rule : goal.invariant-loop-rule
invariant-loop-rule g l = AreOptimal l.self (take l.rule-index l.rules) (production_numbers g.S.Storage.number l.optimal.items)
