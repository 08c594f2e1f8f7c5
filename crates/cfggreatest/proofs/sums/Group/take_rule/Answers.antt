use Rattle.std.proofs.Common.{◌<◌, ◌⊎◌, ◌∙◌, All, map, length, sym, subst, arith}
use Rattle.std.specs.List.{slice_index}
use Rattle.std.proofs.lemmas.List.{length-map}
use Rattle.std.proofs.lemmas.Result.{err_from_is_err_and}
use Rattle.derivation.specs.Grammar.{HasProduction}
use Rattle.cfgtables.specs.NumberedSymbols.{sym_of}
use Rattle.cfgtables.specs.Openings.{ArePositionsOf}
use Rattle.cfgtables.proofs.Slices.{mapped_all, mapped_at, mapped_within}
use Rattle.derivation.specs.CostLists.{IsListed}
use Rattle.derivation.proofs.Listed.{symbols_listed}
use Rattle.cfggreatest.specs.Inner.AtLeast.{IsUnproductive}
use Rattle.cfggreatest.specs.Inner.Sums.{IsUnder, known_in}
use Rattle.cfggreatest.proofs.Located.{located, located_all, located_more}
use Rattle.cfggreatest.proofs.Reaching.{no_less_then, sequence_grows, sequence_taken, under_more_all}
use Rattle.cfggreatest.proofs.sums.Group.take_rule.Goals as goal

pub rule_to_prods-p-items-requires : goal.rule_to_prods-p-items-requires
rule_to_prods-p-items-requires g c = subst (λ n. n < (g.T.Tables.grammar c.args.grm.now).rules) (sym c.to_storage.ensures) c.requires.within

pub prod-requires : goal.prod-requires
prod-requires g c = mapped_all (λ p. g.S.Storage.number p.0) _ _ _ c.p-item.is (omega (arith, c.loop-p-test.true))
    (λ p. p < length (g.T.Tables.grammar c.args.grm.now).productions) c.rule_to_prods-p-items.ensures.within

pub take_sequence-requires-clause-results : goal.take_sequence-requires-clause-results
take_sequence-requires-clause-results g c = c.requires.group.results ∙ sym c.requires.group.numbers

pub take_sequence-requires-clause-symbols : goal.take_sequence-requires-clause-symbols
take_sequence-requires-clause-symbols g c =
    let grammar = g.T.Tables.grammar c.args.grm.now in
    let index = mapped_all (λ p. g.S.Storage.number p.0) _ _ _ c.p-item.is (omega (arith, c.loop-p-test.true)) (λ p. p < length grammar.productions) c.rule_to_prods-p-items.ensures.within in
    subst (λ n. All (IsListed n (length c.args.self.now.costs.now)) (map (sym_of g.S.Storage.number) c.prod.result.now)) (sym c.requires.group.numbers)
    (subst (λ n. All (IsListed grammar.rules n) (map (sym_of g.S.Storage.number) c.prod.result.now)) (sym c.requires.group.costs)
    (subst (All (IsListed grammar.rules grammar.tokens)) (sym c.prod.ensures)
    (symbols_listed grammar (g.S.Storage.number c.p-item.result.0) c.invariant_holds.ensures.content index)))

pub returns-in_err-take_sequence-clause-grows : goal.returns-in_err-take_sequence-clause-grows
returns-in_err-take_sequence-clause-grows g c =
    let grammar = g.T.Tables.grammar c.args.grm.now in
    let positions = map (λ p. g.S.Storage.number p.0) c.rule_to_prods-p-items.result.now in
    let lt : c.loop-p.p-index < length c.rule_to_prods-p-items.result.now = omega (arith, c.loop-p-test.true) in
    let has = located grammar _ positions (subst (λ r. ArePositionsOf grammar r positions) c.to_storage.ensures c.rule_to_prods-p-items.ensures) c.loop-p.p-index _ _
    (mapped_within (λ p. g.S.Storage.number p.0) _ _ _ c.p-item.is lt) (mapped_at (λ p. g.S.Storage.number p.0) _ _ _ c.p-item.is lt) c.prod.ensures in
    let p = err_from_is_err_and c.from_residual.result c.from_residual.ensures.1 in
    rw p.1 (sequence_grows grammar (slice_index c.args.self.now.costs.now) c.args.self.now.productive.now (known_in c.args.self.now) c.args.rules.now c.requires.group.is c.requires.words
    c.args.rule c.requires.among _ has c.in_err-take_sequence.ensures.0 c.in_err-take_sequence.ensures.1)

pub loop-p-init : goal.loop-p-init
loop-p-init g c = record {
  reached = c.requires.reached;
  under = λ k lt. absurd (omega (arith, lt));
  more = record { top = omega arith; twice = λ e. e };
}

pub loop-p-preserved : goal.loop-p-preserved
loop-p-preserved g c =
    let grammar = g.T.Tables.grammar c.args.grm.now in
    let cost = slice_index c.args.self.now.costs.now in
    let productive = c.args.self.now.productive.now in
    let known = known_in c.args.self.now in
    let positions = map (λ p. g.S.Storage.number p.0) c.rule_to_prods-p-items.result.now in
    let of = subst (λ r. ArePositionsOf grammar r positions) c.to_storage.ensures c.rule_to_prods-p-items.ensures in
    let lt : c.loop-p.p-index < length c.rule_to_prods-p-items.result.now = omega (arith, c.loop-p-test.true) in
    let within = mapped_within (λ p. g.S.Storage.number p.0) _ _ _ c.p-item.is lt in
    let at = mapped_at (λ p. g.S.Storage.number p.0) _ _ _ c.p-item.is lt in
    let has = located grammar _ positions of c.loop-p.p-index _ _ within at c.prod.ensures in
    let taken = sequence_taken grammar cost productive known c.args.rules.now c.requires.group.is c.requires.words
    c.args.rule c.requires.among _ has c.loop-p.sums c.take_sequence.new.sums c.loop-p.invariant.reached c.in_ok-take_sequence.ensures in
    record {
      reached = taken.0;
      under = located_more grammar _ positions of (λ a. IsUnproductive (HasProduction grammar) a ⊎ IsUnder cost known productive a c.take_sequence.new.sums)
          c.loop-p.p-index _ _ within at c.prod.ensures
          (λ k below. under_more_all cost known productive _ (HasProduction grammar) _ _ taken.2 (c.loop-p.invariant.under k below)) taken.1;
      more = no_less_then c.args.sums.now c.loop-p.sums c.take_sequence.new.sums c.loop-p.invariant.more taken.2;
    }

pub returns-clause-under : goal.returns-clause-under
returns-clause-under g c =
    let grammar = g.T.Tables.grammar c.args.grm.now in
    let positions = map (λ p. g.S.Storage.number p.0) c.rule_to_prods-p-items.result.now in
    let len = length-map c.rule_to_prods-p-items.result.now (λ p. g.S.Storage.number p.0) in
    located_all grammar _ positions (subst (λ r. ArePositionsOf grammar r positions) c.to_storage.ensures c.rule_to_prods-p-items.ensures)
    (λ a. IsUnproductive (HasProduction grammar) a ⊎ IsUnder (slice_index c.args.self.now.costs.now) (known_in c.args.self.now) c.args.self.now.productive.now a c.loop-p.sums)
    c.loop-p.p-index (omega (arith, len, c.loop-p-test.false)) c.loop-p.invariant.under
