use Rattle.std.proofs.Common.{take}
use Rattle.search.specs.Reachable.{FoundBy, Reaches}
use Rattle.cfgchoices.specs.Kinds.{IsBase, IsChain, production_numbers}
use Rattle.cfgcosts.specs.Inner.Minimal.{Lists}
use Rattle.cfgcosts.proofs.ReachedBases.{IsAmong}
use Rattle.cfgcosts.proofs.generator.SentenceGenerator.go_through.Given as goal

abbrev pub invariant-loop-p : goal.invariant-loop-p
invariant-loop-p g l = record {
  targets : Reaches (FoundBy (λ p. IsChain l.self (g.S.Storage.number p.0)) (take l.p-index l.p-items)) l.fn.search l.search;
  base : Lists (IsAmong (IsBase l.self) (take l.p-index (production_numbers g.S.Storage.number l.p-items))) (production_numbers g.S.Storage.number l.fn.base.items)
      (production_numbers g.S.Storage.number l.base.items);
}
