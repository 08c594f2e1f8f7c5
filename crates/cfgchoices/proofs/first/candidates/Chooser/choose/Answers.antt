use Rattle.std.proofs.Common.{◌≡◌, ◌<◌, ◌+◌, None, Some, length, map, slice_set, refl, sym, ap, subst, ◌∙◌, arith}
use Rattle.cfgleast.specs.Certificate.{choice_of, rule_choice}
use Rattle.cfgchoices.specs.Kinds.{IsChain}
use Rattle.cfgchoices.specs.Inner.Candidates.{Adds, HandlesChains, IsHandled, IsCandidate, Nominating, Candidates, Takes, candidates_of, owner, waiting}
use Rattle.cfgchoices.proofs.Nominated.{target_nominated}
use Rattle.cfgchoices.proofs.Taken.{chosen_going, chosen_handles, chosen_left, chosen_shown, entry_within, has_shown, now, now_nominating, number_fits, passed_going, passed_handles, taken_cost, taken_less, unset_shown}
use Rattle.cfgchoices.proofs.first.candidates.Chooser.choose.Given.{Over}
use Rattle.cfgchoices.proofs.first.candidates.Chooser.choose.Goals.{After-index_mut}
use Rattle.cfgchoices.proofs.first.candidates.Chooser.choose.Goals as goal

taken : (g : Over) (c : After-index_mut g) → Takes c.args.optimal.now (g.S.Storage.number c.in-Some.p.0) (candidates_of g.S.Storage.number c.args.self.now) (candidates_of g.S.Storage.number c.next.new.self)
taken g c = c.in-Some.ensures c.args.optimal.now c.requires.nominating.candidates

inside : (g : Over) (c : After-index_mut g) → owner c.args.optimal.now.tables (g.S.Storage.number c.in-Some.p.0) < c.args.optimal.now.tables.grammar.rules
inside g c = subst (λ i. i < c.args.optimal.now.tables.grammar.rules) c.rule_of-rule.ensures.value c.rule_of-rule.ensures.within

unset : (g : Over) (c : After-index_mut g) → rule_choice (candidates_of g.S.Storage.number c.next.new.self).choices (owner c.args.optimal.now.tables (g.S.Storage.number c.in-Some.p.0)) ≡ None
unset g c =
    let items = c.next.new.self.choices.items in
    let within = entry_within (choice_of g.S.Storage.number) items _ _ _ (taken g c).candidates.choosing.listed refl (inside g c) in
    unset_shown g.S.Storage.number items c.from.result _ (c.from.ensures ∙ c.rule_of-rule.ensures.value) within c.index.result.now c.index.ensures (sym c.is_some.ensures ∙ c.if-is_some.false)

same : (g : Over) (c : After-index_mut g) → map (choice_of g.S.Storage.number) (slice_set c.next.new.self.choices.items c.from-2.result (Some (c.in-Some.p, c.next.new.self.number)))
    ≡ slice_set (candidates_of g.S.Storage.number c.next.new.self).choices (owner c.args.optimal.now.tables (g.S.Storage.number c.in-Some.p.0)) (Some (g.S.Storage.number c.in-Some.p.0, c.next.new.self.number))
same g c =
    let items = c.next.new.self.choices.items in
    let within = entry_within (choice_of g.S.Storage.number) items _ _ _ (taken g c).candidates.choosing.listed refl (inside g c) in
    chosen_shown g.S.Storage.number items c.from-2.result _ (c.from-2.ensures ∙ c.rule_of-rule.ensures.value) within c.in-Some.p c.next.new.self.number

pub rule_of-rule-requires : goal.rule_of-rule-requires
rule_of-rule-requires g c = (c.in-Some.ensures c.args.optimal.now c.requires.nominating.candidates).next.nominated.optimal.index

pub overflow_add-self : goal.overflow_add-self
overflow_add-self g c =
    let at = (goal.at.overflow_add-self g c).After-index_mut in
    let (m, known) = c.invariant_holds.ensures in
    let most = number_fits _ _ _ _ (taken g at) c.requires m known (unset g at) (inside g at) in
    omega (arith, most, c.rule_of-rule.ensures.limit)

pub nominate_listed-requires-clause-nominating : goal.nominate_listed-requires-clause-nominating
nominate_listed-requires-clause-nominating g c =
    let f = candidates_of g.S.Storage.number c.next.new.self in
    let at = (goal.at.nominate_listed-requires-clause-nominating g c).After-index_mut in
    let (m, known) = c.invariant_holds.ensures in
    subst (λ l. Nominating c.args.optimal.now (record f { choices = l; number = f.number + 1 })) (sym (same g at))
    (now_nominating _ _ _ _ (taken g at) c.requires m known (unset g at) (inside g at))

pub nominate_listed-requires-clause-nominated : goal.nominate_listed-requires-clause-nominated
nominate_listed-requires-clause-nominated g c =
    let k = c.args.optimal.now in
    let f = candidates_of g.S.Storage.number c.next.new.self in
    let at = (goal.at.nominate_listed-requires-clause-nominated g c).After-index_mut in
    let t = taken g at in
    let (m, known) = c.invariant_holds.ensures in
    λ q target. subst (λ l. IsCandidate k l (f.number + 1) f.cost q) (sym (same g at))
    (target_nominated k m known f _ t.candidates t.next (unset g at) (inside g at) q (subst (IsChain k.tables q) c.rule_of-rule.ensures.value target))

pub returns-in_default : goal.returns-in_default
returns-in_default g c =
    let d = c.in_default.ensures c.args.optimal.now c.requires.nominating.candidates in record {
      going = subst (HandlesChains c.args.optimal.now) (sym d.1) c.requires;
      handles = λ q h. subst (λ f. IsHandled c.args.optimal.now.tables f q) (sym d.1) h;
      cost = ap (λ (f : Candidates). f.cost) d.1;
      left = ap waiting d.1 ∙ d.0;
    }

pub returns-then-is_some : goal.returns-then-is_some
returns-then-is_some g c =
    let number = g.S.Storage.number in
    let items = c.next.new.self.choices.items in
    let t = c.in-Some.ensures c.args.optimal.now c.requires.nominating.candidates in
    let (m, known) = c.invariant_holds.ensures in
    let value = c.rule_of-rule.ensures.value in
    let within = entry_within (choice_of number) items _ _ _ t.candidates.choosing.listed value c.rule_of-rule.ensures.within in
    let has = has_shown number items c.from.result _ (c.from.ensures ∙ value) within c.index.result.now c.index.ensures (sym c.is_some.ensures ∙ c.if-is_some.true) in record {
      going = passed_going _ _ _ _ t c.requires m known has;
      handles = passed_handles _ _ _ _ t c.requires m known has;
      cost = taken_cost _ _ _ _ t;
      left = taken_less _ _ _ _ t;
    }

pub returns : goal.returns
returns g c =
    let number = g.S.Storage.number in
    let x = c.args.optimal.now.tables in
    let f = candidates_of number c.next.new.self in
    let f' = candidates_of number c.nominate_listed.new.self in
    let at = (goal.at.returns g c).After-index_mut in
    let t = taken g at in
    let (m, known) = c.invariant_holds.ensures in
    let positions = length x.grammar.productions in
    let adds = subst (λ r. Adds x (λ q. IsChain x q r) positions (now _ _ _ _ t c.requires m known (unset g at) (inside g at)) f') c.rule_of-rule.ensures.value
    (subst (λ l. Adds x (λ q. IsChain x q (number c.rule_of-rule.result.0)) positions (record f { choices = l; number = f.number + 1 }) f') (same g at) c.in_ok-nominate_listed.ensures.adds) in record {
      going = chosen_going _ _ _ _ t c.requires m known (unset g at) (inside g at) f' adds c.in_ok-nominate_listed.ensures.nominating;
      handles = chosen_handles _ _ _ _ t c.requires m known (unset g at) (inside g at) f' adds;
      cost = adds.cost ∙ taken_cost _ _ _ _ t;
      left = chosen_left _ _ _ _ t c.requires m known (unset g at) (inside g at) f' adds;
    }

pub index-requires : goal.index-requires
index-requires g c =
    let items = c.next.new.self.choices.items in
    let t = c.in-Some.ensures c.args.optimal.now c.requires.nominating.candidates in
    let inside = subst (λ i. i < c.args.optimal.now.tables.grammar.rules) (sym c.from.ensures) c.rule_of-rule.ensures.within in
    let within = entry_within (choice_of g.S.Storage.number) items _ c.from.result c.from.result t.candidates.choosing.listed refl inside in
    omega (arith, within, c.next.new.self.choices.ok.0)

pub index_mut-requires : goal.index_mut-requires
index_mut-requires g c =
    let items = c.next.new.self.choices.items in
    let t = c.in-Some.ensures c.args.optimal.now c.requires.nominating.candidates in
    let inside = subst (λ i. i < c.args.optimal.now.tables.grammar.rules) (sym c.from-2.ensures) c.rule_of-rule.ensures.within in
    let within = entry_within (choice_of g.S.Storage.number) items _ c.from-2.result c.from-2.result t.candidates.choosing.listed refl inside in
    omega (arith, within, c.next.new.self.choices.ok.0)

pub nominate_listed-requires-clause-list : goal.nominate_listed-requires-clause-list
nominate_listed-requires-clause-list g c = c.rule_of-rule.ensures.within
