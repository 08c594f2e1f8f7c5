use Rattle.std.proofs.Common.{◌∙◌, ◌<◌, inl, inr, Contains, Err, get_or, length, slice_set, length-set, get_or-set_same, subst, sym, ap, arith}
use Rattle.std.proofs.lemmas.List.{get_or_default, take_all}
use Rattle.std.proofs.lemmas.List.Elements.{Contains-get_or}
use Rattle.lemmas.proofs.Elements.{get_or-set}
use Rattle.lemmas.proofs.Taken.{contains_taken}
use Rattle.derivation.specs.declared.errors.CostError.TheVariants.{NoSentence}
use Rattle.cfggreatest.proofs.greatest.set_results.Goals as goal

pub index_mut-requires : goal.index_mut-requires
index_mut-requires c =
    let rules = c.args.rules.now in
    let i = c.loop-rule.rule-index in
    omega (arith, c.requires (get_or rules i 0) (Contains-get_or rules i 0 c.loop-rule-test.true), c.loop-rule.invariant.len, c.loop-rule.results.ok.0)

pub loop-rule-preserved : goal.loop-rule-preserved
loop-rule-preserved c =
    let results = c.loop-rule.results.items in
    let rules = c.args.rules.now in
    let i = c.loop-rule.rule-index in
    let rule = get_or rules i 0 in
    let taken = contains_taken rules i rule c.loop-rule-test.true (get_or_default rules i 0 rule c.loop-rule-test.true) in
    let within : rule < length results = subst (λ n. rule < n) (sym c.loop-rule.invariant.len) (c.requires rule (Contains-get_or rules i 0 c.loop-rule-test.true)) in
    record {
      len = length-set results rule c.args.value ∙ c.loop-rule.invariant.len;
      set = λ r among. elim (get_or-set results rule r c.args.value (Err NoSentence)) [
        | inr h ↦ h.1
        | inl e ↦ elim ((taken r).0 among) [
          | inl before ↦ e ∙ c.loop-rule.invariant.set r before
          | inr here ↦ ap (λ n. get_or (slice_set results rule c.args.value) n (Err NoSentence)) here ∙ get_or-set_same results rule c.args.value (Err NoSentence) within
        ]
      ];
      rest = λ r out. elim (get_or-set results rule r c.args.value (Err NoSentence)) [
        | inl e ↦ e ∙ c.loop-rule.invariant.rest r (λ before. out ((taken r).1 (inl before)))
        | inr h ↦ absurd (out ((taken r).1 (inr h.0)))
      ];
    }

pub returns-clause-set : goal.returns-clause-set
returns-clause-set c = λ r among. c.loop-rule.invariant.set r
    (subst (λ l. Contains l r) (sym (take_all c.loop-rule.rule-index c.args.rules.now (omega (arith, c.loop-rule-test.false)))) among)

pub returns-clause-rest : goal.returns-clause-rest
returns-clause-rest c = λ r out. c.loop-rule.invariant.rest r
    (λ among. out (subst (λ l. Contains l r) (take_all c.loop-rule.rule-index c.args.rules.now (omega (arith, c.loop-rule-test.false))) among))
