use Rattle.std.proofs.Common.{◌≡◌, ◌<◌, ℕ, length, rules, sym, subst, ap, ◌∙◌, arith}
use Rattle.std.proofs.lemmas.List.{length-map, map-append}
use Rattle.cfgtables.specs.Openings.{ArePositionsOf}
use Rattle.cfgtables.proofs.Slices.{mapped_within, mapped_at, mapped_all}
use Rattle.cfgleast.specs.Generator.{CostTables}
use Rattle.cfgchoices.specs.Kinds.{IsOptimal, production_numbers}
use Rattle.cfgcosts.specs.Inner.Minimal.{Lists}
use Rattle.cfgcosts.proofs.ReachedBases.{lists_none, lists_one, owns_begin, owns_more, owns_end}
use Rattle.cfgcosts.proofs.generator.SentenceGenerator.push_optimal.Goals.{then-is_optimal+in_ok-push, else-is_optimal}
use Rattle.cfgcosts.proofs.generator.SentenceGenerator.push_optimal.Goals as goal

pub rule_to_prods-p-items-requires : goal.rule_to_prods-p-items-requires
rule_to_prods-p-items-requires g c = subst (λ (x : CostTables). g.S.Storage.number c.args.rule.0 < x.grammar.rules) (sym c.self.view_is) c.requires

pub loop-p-init : goal.loop-p-init
loop-p-init g c =
    let numbers = production_numbers g.S.Storage.number in
    owns_begin (IsOptimal c.args.self.now) (numbers c.rule_to_prods-p-items.result.now) (numbers c.args.optimal.now.items)

pub is_optimal-requires : goal.is_optimal-requires
is_optimal-requires g c = subst (λ (x : CostTables). g.S.Storage.number c.p-item.result.0 < length x.grammar.productions) c.self.view_is
    (mapped_all (λ p. g.S.Storage.number p.0) _ _ _ c.p-item.is (omega (arith, c.loop-p-test.true))
    (λ p. p < length (g.T.Tables.grammar c.self.inside.tables.now).productions) c.rule_to_prods-p-items.ensures.within)

pub loop-p-preserved : goal.loop-p-preserved
loop-p-preserved g c =
    let x = c.args.self.now in
    let numbers = production_numbers g.S.Storage.number in
    let positions = numbers c.rule_to_prods-p-items.result.now in
    let p = g.S.Storage.number c.p-item.result.0 in
    let Is = λ (q : ℕ). (q ≡ p) × IsOptimal x q in
    let old = c.loop-p.optimal.items in
    let within = mapped_within (λ p. g.S.Storage.number p.0) _ _ _ c.p-item.is c.loop-p-test.true in
    let at = mapped_at (λ p. g.S.Storage.number p.0) _ _ _ c.p-item.is c.loop-p-test.true in
    owns_more (IsOptimal x) positions c.loop-p.p-index p within at _ _ _ c.loop-p.invariant (elim c.if-is_optimal.branch [
      | then-is_optimal+in_ok-push w ↦
          let optimal = c.is_optimal.ensures.0 (search rules) in
          subst (λ v. Lists Is (numbers old) (numbers v.items)) (sym w.optimal-is)
          (lists_one (numbers old) _ Is p (ap numbers w.in_ok-push.ensures.items ∙ map-append (λ p. g.S.Storage.number p.0) old _)
          (λ q is. (is, subst (IsOptimal x) (sym is) optimal)) (λ q h. h.0))
      | else-is_optimal w ↦
          subst (λ v. Lists Is (numbers old) (numbers v.items)) (sym w.optimal-is)
          (lists_none (numbers old) Is (λ q h. let bit = c.is_optimal.ensures.1 (subst (IsOptimal x) h.0 h.1) in search rules))
    ])

pub returns : goal.returns
returns g c =
    let x = c.args.self.now in
    let rule = g.S.Storage.number c.args.rule.0 in
    let positions = production_numbers g.S.Storage.number c.rule_to_prods-p-items.result.now in
    let are = subst (λ (x : CostTables). ArePositionsOf x.grammar rule positions) c.self.view_is c.rule_to_prods-p-items.ensures in
    owns_end (IsOptimal x) positions x.grammar rule are (λ p h. h.index) c.loop-p.p-index
    (simp length-map (omega (arith, c.loop-p-test.false, c.loop-p.auto.p-index-end))) _ _ c.loop-p.invariant
