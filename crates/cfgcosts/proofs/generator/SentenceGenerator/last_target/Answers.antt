use Rattle.std.proofs.Common.{◌≡◌, ◌<◌, get_or, refl, sym, subst}
use Rattle.cfgindex.specs.declared.idxnewtype.RIdx.{RIdx}
use Rattle.derivation.proofs.Sequences.{item_shown}
use Rattle.cfgleast.specs.Generator.{CostTables}
use Rattle.cfgcosts.specs.Inner.Targets.{AreTargets, HasSameSentences, rules_of}
use Rattle.cfgchoices.specs.Kinds.{AreKinds}
use Rattle.cfgcosts.proofs.OnlyTargets.{target_same}
use Rattle.cfgcosts.proofs.generator.SentenceGenerator.last_target.Goals as goal

pub returns : goal.returns
returns g c =
    let number = g.S.Storage.number in
    let x = c.args.self.now in
    let kinds = c.self.inside.kinds.items in
    let targets = c.self.inside.last_targets.items in
    let target = c.index.result.now in
    let r = number c.args.rule.0 in
    let (n, is) = c.invariant_holds.ensures.generator in
    let all = subst (λ (x : CostTables). AreKinds number x kinds) c.self.view_is c.self.invariant.2 in
    let are = subst (λ (x : CostTables). AreTargets number x.grammar kinds (rules_of number targets)) c.self.view_is c.self.invariant.5 in
    let lt = subst (λ m. r < m) (sym are.all) c.requires in
    let at = item_shown (λ (r : RIdx _). number r.0) targets (rules_of number targets) r target 0 refl lt (subst (λ i. target ≡ get_or targets i target) c.from.ensures c.index.ensures) in
    subst (HasSameSentences x r) at (target_same number x kinds all n is c.invariant_holds.ensures.grammar (rules_of number targets) r are lt)
