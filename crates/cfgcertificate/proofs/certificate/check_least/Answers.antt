use Rattle.std.proofs.Common.{refl, sym, ◌∙◌, true≢false, ◌<◌, ◌≤◌, length, arith}
use Rattle.cfgleast.proofs.Certified.{covered_more, covered_all, covered_here, certified_bound, production_listed}
use Rattle.cfgleast.proofs.Settles.{owner_within}
use Rattle.cfgcertificate.proofs.certificate.check_least.Goals as goal

pub is_covered-requires-clause-rule : goal.is_covered-requires-clause-rule
is_covered-requires-clause-rule g c =
    let grammar = g.T.Tables.grammar c.args.grm.now in
    let index : g.S.Storage.number c.to_storage.result < length grammar.productions =
    omega (arith, c.loop-number-test.true, c.to_usize-prods_len.ensures.value, c.prods_len.ensures, c.to_storage.ensures) in
    let below = owner_within grammar (g.S.Storage.number c.to_storage.result) c.rules_len.ensures.content index in
    omega (arith, c.prod_to_rule.ensures, below, c.requires.least)

pub is_covered-requires-clause-symbols : goal.is_covered-requires-clause-symbols
is_covered-requires-clause-symbols g c =
    let grammar = g.T.Tables.grammar c.args.grm.now in
    let index : g.S.Storage.number c.to_storage.result < length grammar.productions =
    omega (arith, c.loop-number-test.true, c.to_usize-prods_len.ensures.value, c.prods_len.ensures, c.to_storage.ensures) in
    production_listed grammar (g.S.Storage.number c.to_storage.result) (length c.args.least.now) (length c.args.costs.now) _ c.rules_len.ensures.content index
    c.requires.least c.requires.costs c.prod.ensures

pub returns-then-not-is_covered-clause-exact : goal.returns-then-not-is_covered-clause-exact
returns-then-not-is_covered-clause-exact g c =
    let grammar = g.T.Tables.grammar c.args.grm.now in
    let index : g.S.Storage.number c.to_storage.result < length grammar.productions =
    omega (arith, c.loop-number-test.true, c.to_usize-prods_len.ensures.value, c.prods_len.ensures, c.to_storage.ensures) in (
      (λ h. absurd (true≢false (sym h))),
      (λ all. sym c.if-not-is_covered.true ∙ c.is_covered.ensures.exact.1
          (covered_here grammar c.args.costs.now c.args.least.now (g.S.Storage.number c.to_storage.result) _ _ index c.prod_to_rule.ensures c.prod.ensures all)),
    )

pub loop-number-preserved : goal.loop-number-preserved
loop-number-preserved g c =
    let within : c.loop-number.number < length (g.T.Tables.grammar c.args.grm.now).productions =
    omega (arith, c.loop-number-test.true, c.to_usize-prods_len.ensures.value, c.prods_len.ensures) in
    covered_more (g.T.Tables.grammar c.args.grm.now) c.args.costs.now c.args.least.now c.loop-number.number (g.S.Storage.number c.to_storage.result) _ _ within
    c.to_storage.ensures c.prod_to_rule.ensures c.prod.ensures c.loop-number.invariant
    ((c.is_covered.ensures.exact.0 c.if-not-is_covered.false), c.is_covered.ensures.range)

pub returns-clause-exact : goal.returns-clause-exact
returns-clause-exact g c =
    let past : length (g.T.Tables.grammar c.args.grm.now).productions ≤ c.loop-number.number =
    omega (arith, c.loop-number-test.false, c.to_usize-prods_len.ensures.value, c.prods_len.ensures) in
    ((λ _. covered_all (g.T.Tables.grammar c.args.grm.now) c.args.costs.now c.args.least.now c.loop-number.number past c.loop-number.invariant), (λ _. refl))

pub returns-clause-bound : goal.returns-clause-bound
returns-clause-bound g c =
    let past : length (g.T.Tables.grammar c.args.grm.now).productions ≤ c.loop-number.number =
    omega (arith, c.loop-number-test.false, c.to_usize-prods_len.ensures.value, c.prods_len.ensures) in
    λ _. certified_bound (g.T.Tables.grammar c.args.grm.now) c.args.costs.now c.args.least.now c.loop-number.number past c.loop-number.invariant
