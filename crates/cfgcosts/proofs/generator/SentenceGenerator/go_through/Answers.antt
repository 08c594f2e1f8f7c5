use Rattle.std.proofs.Common.{◌≡◌, ◌<◌, ℕ, length, sym, ap, subst, ◌∙◌, arith}
use Rattle.std.proofs.lemmas.List.{length-map, map-append}
use Rattle.search.specs.Reachable.{Reaches}
use Rattle.search.proofs.Each.{each_none, each_more, each_all, found_mapped}
use Rattle.search.proofs.Reaching.{reaches_as, reaches_known}
use Rattle.cfgtables.specs.Openings.{ArePositionsOf}
use Rattle.cfgtables.proofs.Slices.{mapped_within, mapped_at, mapped_all}
use Rattle.cfgleast.specs.Generator.{CostTables}
use Rattle.cfgchoices.specs.Kinds.{AreKinds, IsBase, IsChain, IsKind, IsOptimal, production_numbers}
use Rattle.cfgchoices.specs.declared.kinds.Kind.{Kind}
use Rattle.cfgchoices.proofs.Optimal.{answered_within, base_leads_nowhere, kind_read, one_target}
use Rattle.cfgcosts.specs.Inner.Minimal.{Lists}
use Rattle.cfgcosts.proofs.ReachedBases.{lists_none, lists_one, targets_end, owns_begin, owns_more, owns_end}
use Rattle.cfgcosts.proofs.generator.SentenceGenerator.go_through.Given.{Over}
use Rattle.cfgcosts.proofs.generator.SentenceGenerator.go_through.Goals.{After-index-kind, in-Suboptimal, in-Base+in_ok-push-in-Base, in-Chain+in_ok-reach-in-Chain}
use Rattle.cfgcosts.proofs.generator.SentenceGenerator.go_through.Goals as goal

kind : (g : Over) (c : After-index-kind g) (k : Kind _) → c.index-kind.result.now ≡ k → IsKind g.S.Storage.number c.args.self.now (g.S.Storage.number c.p-item.result.0) k
kind g c k is =
    let p = g.S.Storage.number c.p-item.result.0 in
    let index = subst (λ (x : CostTables). p < length x.grammar.productions) c.self.view_is
    (mapped_all (λ p. g.S.Storage.number p.0) _ _ _ c.p-item.is (omega (arith, c.loop-p-test.true))
    (λ p. p < length (g.T.Tables.grammar c.self.inside.tables.now).productions) c.rule_to_prods-p-items.ensures.within) in
    subst (IsKind g.S.Storage.number c.args.self.now p) is
    (kind_read g.S.Storage.number c.args.self.now c.self.inside.kinds.items p c.from.result c.index-kind.result.now
    (subst (λ (x : CostTables). AreKinds g.S.Storage.number x c.self.inside.kinds.items) c.self.view_is c.self.invariant.2) c.from.ensures index c.index-kind.ensures)

pub rule_to_prods-p-items-requires : goal.rule_to_prods-p-items-requires
rule_to_prods-p-items-requires g c = subst (λ (x : CostTables). g.S.Storage.number c.args.rule.0 < x.grammar.rules) (sym c.self.view_is) c.requires.rule

pub index-kind-requires : goal.index-kind-requires
index-kind-requires g c =
    let index = mapped_all (λ p. g.S.Storage.number p.0) _ _ _ c.p-item.is (omega (arith, c.loop-p-test.true))
    (λ p. p < length (g.T.Tables.grammar c.self.inside.tables.now).productions) c.rule_to_prods-p-items.ensures.within in
    omega (arith, index, c.self.invariant.2.all, c.from.ensures, c.self.inside.kinds.ok.0)

pub loop-p-init : goal.loop-p-init
loop-p-init g c =
    let positions = production_numbers g.S.Storage.number c.rule_to_prods-p-items.result.now in
    record { targets = each_none _ _; base = owns_begin (IsBase c.args.self.now) positions (production_numbers g.S.Storage.number c.args.base.now.items) }

pub reach-requires : goal.reach-requires
reach-requires g c =
    let target = kind g (goal.at.reach-requires g c).After-index-kind _ c.in-Chain.is in
    subst (λ n. n < length c.loop-p.search.reachable) (sym c.from-in-Chain.ensures)
    (subst (λ m. g.S.Storage.number c.in-Chain.target.0 < m) (sym (c.loop-p.invariant.targets.shape ∙ c.requires.rules)) (answered_within c.args.self.now _ c.invariant_holds.ensures.generator.1 _ target.optimal.cost target.same))

pub loop-p-preserved : goal.loop-p-preserved
loop-p-preserved g c =
    let x = c.args.self.now in
    let numbers = production_numbers g.S.Storage.number in
    let positions = numbers c.rule_to_prods-p-items.result.now in
    let p = g.S.Storage.number c.p-item.result.0 in
    let lt : c.loop-p.p-index < length c.rule_to_prods-p-items.result.now = omega (arith, c.loop-p-test.true) in
    let within = mapped_within (λ p. g.S.Storage.number p.0) _ _ _ c.p-item.is lt in
    let at = mapped_at (λ p. g.S.Storage.number p.0) _ _ _ c.p-item.is lt in
    let kind = kind g (goal.at.loop-p-preserved g c).After-index-kind in
    let nowhere = base_leads_nowhere x _ c.invariant_holds.ensures.generator.1 c.invariant_holds.ensures.grammar p in
    let Is = λ (q : ℕ). (q ≡ p) × IsBase x q in
    let both : Reaches (IsChain x p) c.loop-p.search c.match-kind.search × Lists Is (numbers c.loop-p.base.items) (numbers c.match-kind.base.items) = elim c.match-kind.branch [
      | in-Suboptimal w ↦ let suboptimal = kind _ w.in-Suboptimal.is in (
        subst (Reaches (IsChain x p) c.loop-p.search) (sym w.search-is) (reaches_known (IsChain x p) c.loop-p.search (λ q h. absurd (suboptimal h.optimal))),
        subst (λ b. Lists Is (numbers c.loop-p.base.items) (numbers b.items)) (sym w.base-is) (lists_none _ Is (λ q h. suboptimal (subst (IsOptimal x) h.0 h.1.optimal))),
      )
      | in-Base+in_ok-push-in-Base w ↦ let base = kind _ w.in-Base.is in (
        subst (Reaches (IsChain x p) c.loop-p.search) (sym w.search-is) (reaches_known (IsChain x p) c.loop-p.search (λ q h. absurd (nowhere q base h))),
        subst (λ b. Lists Is (numbers c.loop-p.base.items) (numbers b.items)) (sym w.base-is) (lists_one _ _ Is p
            (ap numbers w.in_ok-push-in-Base.ensures.items ∙ map-append (λ p. g.S.Storage.number p.0) c.loop-p.base.items _) (λ q is. (is, subst (IsBase x) (sym is) base)) (λ q h. h.0)),
      )
      | in-Chain+in_ok-reach-in-Chain w ↦
          let target = kind _ w.in-Chain.is in
          let r = g.S.Storage.number w.in-Chain.target.0 in (
            subst (Reaches (IsChain x p) c.loop-p.search) (sym w.search-is)
                (reaches_as (λ q. q ≡ r) (IsChain x p) _ _ (λ q is. subst (IsChain x p) (sym is) target) (λ q h. one_target x _ c.invariant_holds.ensures.generator.1 c.invariant_holds.ensures.grammar p q r h target)
                (subst (λ r. Reaches (λ q. q ≡ r) c.loop-p.search w.reach.new.self) w.from-in-Chain.ensures w.in_ok-reach-in-Chain.ensures)),
            subst (λ b. Lists Is (numbers c.loop-p.base.items) (numbers b.items)) (sym w.base-is) (lists_none _ Is (λ q h. nowhere r (subst (IsBase x) h.0 h.1) target)),
          )
    ] in
    record {
      targets = each_more _ _ _ _ _ _ _ lt c.p-item.is c.loop-p.invariant.targets both.0;
      base = owns_more (IsBase x) positions c.loop-p.p-index p within at _ _ _ c.loop-p.invariant.base both.1;
    }

pub returns : goal.returns
returns g c =
    let x = c.args.self.now in
    let rule = g.S.Storage.number c.args.rule.0 in
    let positions = production_numbers g.S.Storage.number c.rule_to_prods-p-items.result.now in
    let are = subst (λ (x : CostTables). ArePositionsOf x.grammar rule positions) c.self.view_is c.rule_to_prods-p-items.ensures in
    record {
      targets = targets_end x positions rule are _ _ (found_mapped (λ p. g.S.Storage.number p.0) (IsChain x) c.rule_to_prods-p-items.result.now _ _
          (each_all _ _ _ _ _ (omega (arith, c.loop-p-test.false, c.loop-p.auto.p-index-end)) c.loop-p.invariant.targets));
      base = owns_end (IsBase x) positions x.grammar rule are (λ p h. h.optimal.index) c.loop-p.p-index (simp length-map (omega (arith, c.loop-p-test.false, c.loop-p.auto.p-index-end))) _ _ c.loop-p.invariant.base;
    }
