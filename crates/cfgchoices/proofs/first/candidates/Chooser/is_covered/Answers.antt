use Rattle.std.proofs.Common.{◌≡◌, ◌<◌, inl, Some, None, get_or, refl, sym, subst, ◌∙◌, ap, true≢false, arith}
use Rattle.std.specs.Ordering.{is_le}
use Rattle.cfgleast.specs.Certificate.{choice_of}
use Rattle.cfgchoices.specs.Inner.Candidates.{HasChoice, IsCandidate, candidates_of, owner, production_number}
use Rattle.cfgchoices.proofs.Nominated.{was_chosen}
use Rattle.cfgchoices.proofs.Pending.{entry_shown}
use Rattle.cfgchoices.proofs.Located.{foremost_handled, foremost_nominated}
use Rattle.cfgchoices.proofs.Taken.{entry_within, has_shown, none_shown}
use Rattle.cfgchoices.proofs.first.candidates.Chooser.is_covered.Given.{Over}
use Rattle.cfgchoices.proofs.first.candidates.Chooser.is_covered.Goals.{In-Some}
use Rattle.cfgchoices.proofs.first.candidates.Chooser.is_covered.Goals as goal

not_chosen : (g : Over) (c : In-Some g) → HasChoice (candidates_of g.S.Storage.number c.args.self.now).choices (owner c.args.optimal.now.tables (g.S.Storage.number c.args.p.0)) → ⊥
not_chosen g c =
    let at = c.from-rule.ensures ∙ c.rule_of.ensures.value in
    let inside = subst (λ i. i < c.args.optimal.now.tables.grammar.rules) (sym c.from-rule.ensures) c.rule_of.ensures.within in
    let within = entry_within (choice_of g.S.Storage.number) c.args.self.now.choices.items _ c.from-rule.result _ c.requires.nominating.candidates.choosing.listed at inside in
    none_shown g.S.Storage.number c.args.self.now.choices.items c.from-rule.result _ at within c.index.result.now c.index.ensures (sym c.is_some.ensures ∙ c.if-is_some.false)

foremost : (g : Over) (c : In-Some g) → get_or (candidates_of g.S.Storage.number c.args.self.now).foremost (owner c.args.optimal.now.tables (g.S.Storage.number c.args.p.0)) None ≡ Some (g.S.Storage.number c.in-Some.foremost.0)
foremost g c =
    let items = c.args.self.now.foremost.items in
    let at = c.from-rule.ensures ∙ c.rule_of.ensures.value in
    let inside = subst (λ i. i < c.args.optimal.now.tables.grammar.rules) (sym c.from-rule.ensures) c.rule_of.ensures.within in
    let within = entry_within (production_number g.S.Storage.number) items _ c.from-rule.result _ c.requires.nominating.listed at inside in
    entry_shown (production_number g.S.Storage.number) items c.from-rule.result _ _ (Some c.in-Some.foremost) None at within (sym c.index-2.ensures ∙ c.in-Some.is)

nominated : (g : Over) (c : In-Some g) → IsCandidate c.args.optimal.now (candidates_of g.S.Storage.number c.args.self.now).choices c.args.self.now.number c.args.self.now.cost (g.S.Storage.number c.in-Some.foremost.0)
nominated g c = foremost_nominated c.args.optimal.now (candidates_of g.S.Storage.number c.args.self.now) c.requires.nominating (g.S.Storage.number c.args.p.0) c.requires.nominated
    (g.S.Storage.number c.in-Some.foremost.0) (foremost g c) (not_chosen g c)

pub returns-then-is_some : goal.returns-then-is_some
returns-then-is_some g c =
    let number = g.S.Storage.number in
    let items = c.args.self.now.choices.items in
    let (m, known) = c.invariant_holds.ensures in
    let at = c.from-rule.ensures ∙ c.rule_of.ensures.value in
    let inside = subst (λ i. i < c.args.optimal.now.tables.grammar.rules) (sym c.from-rule.ensures) c.rule_of.ensures.within in
    let within = entry_within (choice_of number) items _ c.from-rule.result _ c.requires.nominating.candidates.choosing.listed at inside in
    λ e. inl (was_chosen c.args.optimal.now m known (candidates_of number c.args.self.now) (number c.args.p.0) c.requires.nominating.candidates c.requires.nominated
    (has_shown number items c.from-rule.result _ at within c.index.result.now c.index.ensures (sym c.is_some.ensures ∙ c.if-is_some.true)))

pub compare-requires-clause-one : goal.compare-requires-clause-one
compare-requires-clause-one g c = nominated g (goal.at.compare-requires-clause-one g c).In-Some

pub returns-in_ok-ordering-in-Some : goal.returns-in_ok-ordering-in-Some
returns-in_ok-ordering-in-Some g c =
    let some = (goal.at.returns-in_ok-ordering-in-Some g c).In-Some in
    λ e. foremost_handled c.args.optimal.now (candidates_of g.S.Storage.number c.args.self.now) c.requires.nominating _ c.requires.nominated _ (foremost g some) (not_chosen g some)
    (λ u v h k greater. true≢false (sym (sym c.is_le.ensures ∙ e) ∙ ap is_le (c.in_ok-ordering-in-Some.ensures u v h k ∙ greater)))

pub rule_of-requires : goal.rule_of-requires
rule_of-requires g c = c.requires.nominated.optimal.index

pub index-requires : goal.index-requires
index-requires g c =
    let inside = subst (λ i. i < c.args.optimal.now.tables.grammar.rules) (sym c.from-rule.ensures) c.rule_of.ensures.within in
    let within = entry_within (choice_of g.S.Storage.number) c.args.self.now.choices.items _ c.from-rule.result c.from-rule.result c.requires.nominating.candidates.choosing.listed refl inside in
    omega (arith, within, c.args.self.now.choices.ok.0)

pub index-requires-2 : goal.index-requires-2
index-requires-2 g c =
    let inside = subst (λ i. i < c.args.optimal.now.tables.grammar.rules) (sym c.from-rule.ensures) c.rule_of.ensures.within in
    let within = entry_within (production_number g.S.Storage.number) c.args.self.now.foremost.items _ c.from-rule.result c.from-rule.result c.requires.nominating.listed refl inside in
    omega (arith, within, c.args.self.now.foremost.ok.0)

pub compare-requires-clause-choosing : goal.compare-requires-clause-choosing
compare-requires-clause-choosing g c = c.requires.nominating.candidates.choosing

pub compare-requires-clause-other : goal.compare-requires-clause-other
compare-requires-clause-other g c = c.requires.nominated

pub returns-in-None : goal.returns-in-None
returns-in-None g c = λ e. absurd (true≢false (sym e))
