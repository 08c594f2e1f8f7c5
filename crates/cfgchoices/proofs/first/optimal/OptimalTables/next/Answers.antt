use Rattle.std.proofs.Common.{◌≡◌, ◌<◌, ◌+◌, None, get_or, sym, ap, subst, ◌∙◌, arith}
use Rattle.std.proofs.lemmas.List.{get_or_default}
use Rattle.cfgchoices.specs.Kinds.{IsChain}
use Rattle.cfgchoices.specs.Inner.Lists.{AreLists, IsFirstFrom, IsBaseAt}
use Rattle.cfgchoices.specs.Inner.Candidates.{Known}
use Rattle.cfgchoices.proofs.first.optimal.OptimalTables.next.Given.{Over}
use Rattle.cfgchoices.proofs.first.optimal.OptimalTables.next.Goals.{After-index}
use Rattle.cfgchoices.proofs.first.optimal.OptimalTables.next.Goals as goal

lists : (g : Over) (c : After-index g) → AreLists g.S.Storage.number c.args.self.now.tables 0 c.self.inside.lists
lists g c = subst (λ (k : Known). AreLists g.S.Storage.number k.tables 0 c.self.inside.lists) c.self.view_is c.self.invariant.1

read : (g : Over) (c : After-index g) → get_or c.self.inside.lists.next.items (g.S.Storage.number c.args.p.0) None ≡ c.index.result.now
read g c =
    let items = c.self.inside.lists.next.items in
    let within = subst (λ m. g.S.Storage.number c.args.p.0 < m) (sym (lists g c).positions) c.requires in
    get_or_default items (g.S.Storage.number c.args.p.0) None c.index.result.now within ∙ ap (λ i. get_or items i c.index.result.now) (sym c.from.ensures) ∙ sym c.index.ensures

pub returns-clause-base : goal.returns-clause-base
returns-clause-base g c =
    let p = g.S.Storage.number c.args.p.0 in
    let at = (goal.at.returns-clause-base g c).After-index in
    λ k base. subst (IsFirstFrom g.S.Storage.number (IsBaseAt c.args.self.now.tables k) (p + 1)) (read g at) ((lists g at).base.after k p (omega arith) base)

pub returns-clause-chain : goal.returns-clause-chain
returns-clause-chain g c =
    let p = g.S.Storage.number c.args.p.0 in
    let at = (goal.at.returns-clause-chain g c).After-index in
    λ r target. subst (IsFirstFrom g.S.Storage.number (λ q. IsChain c.args.self.now.tables q r) (p + 1)) (read g at) ((lists g at).chain.after r p (omega arith) target)
