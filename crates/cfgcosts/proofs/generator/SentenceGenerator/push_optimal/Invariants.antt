use Rattle.std.proofs.Common.{take}
use Rattle.cfgchoices.specs.Kinds.{IsOptimal, production_numbers}
use Rattle.cfgcosts.specs.Inner.Minimal.{Lists}
use Rattle.cfgcosts.proofs.ReachedBases.{IsAmong}
use Rattle.cfgcosts.proofs.generator.SentenceGenerator.push_optimal.Given as goal

abbrev pub invariant-loop-p : goal.invariant-loop-p
invariant-loop-p g l =
    let numbers = production_numbers g.S.Storage.number in
    Lists (IsAmong (IsOptimal l.self) (take l.p-index (numbers l.p-items))) (numbers l.fn.optimal.items) (numbers l.optimal.items)
