use Rattle.std.proofs.Common.{◌≡◌, rules, subst}
use Rattle.cfgleast.specs.Generator.{CostTables}
use Rattle.cfgchoices.specs.Kinds.{AreKinds, IsKind}
use Rattle.cfgchoices.specs.declared.kinds.Kind.{Kind}
use Rattle.cfgchoices.proofs.Optimal.{kind_read}
use Rattle.cfgcosts.proofs.generator.SentenceGenerator.is_optimal.Given.{Over}
use Rattle.cfgcosts.proofs.generator.SentenceGenerator.is_optimal.Goals.{After-index}
use Rattle.cfgcosts.proofs.generator.SentenceGenerator.is_optimal.Goals as goal

kind : (g : Over) (c : After-index g) (k : Kind _) → c.index.result.now ≡ k → IsKind g.S.Storage.number c.args.self.now (g.S.Storage.number c.args.p.0) k
kind g c k is = subst (IsKind g.S.Storage.number c.args.self.now (g.S.Storage.number c.args.p.0)) is
    (kind_read g.S.Storage.number c.args.self.now c.self.inside.kinds.items (g.S.Storage.number c.args.p.0) c.from.result c.index.result.now
    (subst (λ (x : CostTables). AreKinds g.S.Storage.number x c.self.inside.kinds.items) c.self.view_is c.self.invariant.2) c.from.ensures c.requires c.index.ensures)

pub returns-in-Suboptimal : goal.returns-in-Suboptimal
returns-in-Suboptimal g c =
    let suboptimal = kind g (goal.at.returns-in-Suboptimal g c).After-index _ c.in-Suboptimal.is in
    (λ h. search rules, λ h. absurd (suboptimal h))

pub returns-in-Base : goal.returns-in-Base
returns-in-Base g c =
    let base = kind g (goal.at.returns-in-Base g c).After-index _ c.in-Base.is in
    (λ h. base.optimal, λ h. search rules)

pub returns-in-Chain : goal.returns-in-Chain
returns-in-Chain g c =
    let chain = kind g (goal.at.returns-in-Chain g c).After-index _ c.in-Chain.is in
    (λ h. chain.optimal, λ h. search rules)
