use Rattle.std.proofs.Common.{◌≡◌, ℕ, ◌<◌, ◌≤◌, [], length, sym, ap, subst, ◌∙◌, arith}
use Rattle.std.proofs.lemmas.List.{get_or_default}
use Rattle.std.proofs.lemmas.List.Elements.{All-get_or}
use Rattle.derivation.specs.Grammar.{Production}
use Rattle.cfgtables.specs.Openings.{nth_production}
use Rattle.cfgchoices.specs.declared.kinds.Kind.TheVariants.{Suboptimal}
use Rattle.cfgchoices.proofs.SoleRules.{sole_first, sole_none, sole_second, sole_suboptimal}
use Rattle.cfgchoices.proofs.first.optimal.sole_rules.Given.{Over}
use Rattle.cfgchoices.proofs.first.optimal.sole_rules.Goals.{After-from-rule}
use Rattle.cfgchoices.proofs.first.optimal.sole_rules.Goals as goal

at : (g : Over) (c : After-from-rule g) → c.from-rule.result ≡ (nth_production (g.T.Tables.grammar c.args.tables.now) c.loop-number.number).rule
at g c = c.from-rule.ensures ∙ c.prod_to_rule.ensures ∙ ap (λ p. (nth_production (g.T.Tables.grammar c.args.tables.now) p).rule) c.to_storage.ensures

within : (g : Over) (c : After-from-rule g) → c.from-rule.result < (g.T.Tables.grammar c.args.tables.now).rules
within g c =
    let x = g.T.Tables.grammar c.args.tables.now in
    subst (λ r. r < x.rules) (sym (at g c)) (All-get_or (λ (p : Production). p.rule < x.rules) x.productions c.loop-number.number (record { rule = 0; symbols = [] })
    (subst (λ m. c.loop-number.number < m) c.requires c.loop-number-test.true) c.invariant_holds.ensures.content.owners)

below : {n k : ℕ} → n < k → n ≤ k
below lt = omega (arith, lt)

fits : {n k m most : ℕ} → n < k → k ≡ m → m ≤ most → n ≤ most
fits lt same le = omega (arith, lt, same, le)

pub loop-number-init : goal.loop-number-init
loop-number-init g c =
    let rules = c.from-rules_len.ensures ∙ c.rules_len.ensures.value in
    sole_none c.args.kinds.now (g.T.Tables.grammar c.args.tables.now) c.in_ok-sole.sole.items c.in_ok-seen.seen.items (sym c.in_ok-sole.sole.ok.0 ∙ c.in_ok-sole.ensures.len ∙ rules) (sym c.in_ok-seen.seen.ok.0 ∙ c.in_ok-seen.ensures.len ∙ rules)

pub offset_bounds-kinds-number : goal.offset_bounds-kinds-number
offset_bounds-kinds-number g c = below c.loop-number-test.true

pub bounds-kinds-number : goal.bounds-kinds-number
bounds-kinds-number g c = c.loop-number-test.true

pub bounds : goal.bounds
bounds g c = c.loop-number-test.true

pub to_storage-requires : goal.to_storage-requires
to_storage-requires g c = fits c.loop-number-test.true c.requires c.invariant_holds.ensures.productions

pub prod_to_rule-requires : goal.prod_to_rule-requires
prod_to_rule-requires g c = subst (λ m. m < length (g.T.Tables.grammar c.args.tables.now).productions) (sym c.to_storage.ensures)
    (subst (λ m. c.loop-number.number < m) c.requires c.loop-number-test.true)

pub index-requires : goal.index-requires
index-requires g c = subst (λ m. c.from-rule.result < m) (sym (c.loop-number.seen.ok.0 ∙ c.loop-number.invariant.rules)) (within g (goal.at.index-requires g c).After-from-rule)

pub index_mut-requires : goal.index_mut-requires
index_mut-requires g c = subst (λ m. c.from-rule.result < m) (sym (c.loop-number.sole.ok.0 ∙ c.loop-number.invariant.flags)) (within g (goal.at.index_mut-requires g c).After-from-rule)

pub index_mut-requires-in-loop-number : goal.index_mut-requires-in-loop-number
index_mut-requires-in-loop-number g c =
    subst (λ m. c.from-rule.result < m) (sym (c.loop-number.seen.ok.0 ∙ c.loop-number.invariant.rules)) (within g (goal.at.index_mut-requires-in-loop-number g c).After-from-rule)

pub loop-number-preserved-in-Suboptimal : goal.loop-number-preserved-in-Suboptimal
loop-number-preserved-in-Suboptimal g c = sole_suboptimal c.args.kinds.now (g.T.Tables.grammar c.args.tables.now) c.loop-number.number c.loop-number.sole.items c.loop-number.seen.items c.loop-number.invariant
    (λ counts. counts.1 (get_or_default c.args.kinds.now c.loop-number.number Suboptimal _ counts.0 ∙ c.in-Suboptimal.is))

pub loop-number-preserved-then-index : goal.loop-number-preserved-then-index
loop-number-preserved-then-index g c =
    let there = (goal.at.loop-number-preserved-then-index g c).After-from-rule in
    sole_second c.args.kinds.now (g.T.Tables.grammar c.args.tables.now) c.loop-number.number c.loop-number.sole.items c.loop-number.seen.items c.loop-number.invariant
    c.from-rule.result (at g there) (within g there) c.index.result.now c.index.ensures c.if-index.true

pub loop-number-preserved : goal.loop-number-preserved
loop-number-preserved g c =
    let there = (goal.at.loop-number-preserved g c).After-from-rule in
    sole_first c.args.kinds.now (g.T.Tables.grammar c.args.tables.now) c.loop-number.number c.loop-number.sole.items c.loop-number.seen.items c.loop-number.invariant
    c.from-rule.result (at g there) (within g there) c.index.result.now c.index.ensures c.if-index.false

pub returns-clause-flags : goal.returns-clause-flags
returns-clause-flags g c = c.loop-number.invariant.flags

pub returns-clause-sole : goal.returns-clause-sole
returns-clause-sole g c =
    let end : length c.args.kinds.now ≡ c.loop-number.number = omega (arith, c.loop-number-test.false, c.loop-number.auto.number-end) in
    λ r e p q i j. c.loop-number.invariant.one r e p q (subst (λ m. p < m) end i.0) (subst (λ m. q < m) end j.0) i j
