use Rattle.std.proofs.Common.{◌≤◌, ◌<◌, ◌+◌, ◌*◌, length, map, sym, subst, ◌∙◌}
use Rattle.std.proofs.lemmas.List.{length-map}
use Rattle.std.proofs.lemmas.Result.{IfOk-weaker}
use Rattle.derivation.specs.Grammar.{Grammar}
use Rattle.derivation.specs.Sentence.{cost_of}
use Rattle.cfgindex.specs.declared.idxnewtype.TIdx.{TIdx}
use Rattle.cfgleast.specs.Generator.{token_cost}
use Rattle.cfgcosts.specs.DerivedBy.{OpensNoneFree}
use Rattle.cfgcosts.proofs.Opened.{derived_by, free_after}
use Rattle.cfgcosts.proofs.over.min_sentence_over.Goals as goal

pub first_sentence-requires-clause-fresh : goal.first_sentence-requires-clause-fresh
first_sentence-requires-clause-fresh g c = record {
  each = λ p within. c.requires.fresh p (subst (λ (h : Grammar). p < length h.productions) c.requires.same within);
  together = c.requires.all_fresh;
}

pub returns-clause-first : goal.returns-clause-first
returns-clause-first g c = IfOk-weaker c.first_sentence.result _ _ (λ s h. h.found.first) c.first_sentence.ensures.walked

pub returns-clause-length : goal.returns-clause-length
returns-clause-length g c =
    let number = λ (t : TIdx _). g.S.Storage.number t.0 in
    IfOk-weaker c.first_sentence.result _ _
    (λ s h. subst (λ n. n ≤ cost_of (token_cost c.args.generator.now) (map number s.items)) (length-map s.items number) h.found.short) c.first_sentence.ensures.walked

pub returns-clause-within : goal.returns-clause-within
returns-clause-within g c = IfOk-weaker c.first_sentence.result _ _ (λ s h. h.found.within) c.first_sentence.ensures.walked

pub returns-clause-derived : goal.returns-clause-derived
returns-clause-derived g c = IfOk-weaker c.first_sentence.result _ _ (λ s h. derived_by _ _ _ _ _ _ c.first_sentence.ensures.same _ h) c.first_sentence.ensures.walked

pub returns-clause-few : goal.returns-clause-few
returns-clause-few g c =
    let number = λ (t : TIdx _). g.S.Storage.number t.0 in
    let rules = c.args.generator.now.grammar.rules in
    IfOk-weaker c.first_sentence.result _ _
    (λ s h. subst (λ n. g.P.Productions.opened_all c.first_sentence.new.source ≤ 1 + n * rules) (length-map s.items number)
    (subst (λ n. n ≤ 1 + length (map number s.items) * rules) (sym h.opened.together) h.few)) c.first_sentence.ensures.walked

pub returns-clause-free : goal.returns-clause-free
returns-clause-free g c =
    let x = c.args.generator.now in
    free_after x.grammar _ (token_cost x) (g.S.Storage.number c.args.rule.0) _ _ c.first_sentence.ensures.same _ c.first_sentence.result
    c.first_sentence.ensures.walked c.first_sentence.ensures.stopped
    (λ h. subst (λ p. OpensNoneFree x.grammar (token_cost x) (g.P.Productions.opened p)) (sym (c.first_sentence.ensures.refused h)) (λ p within least. c.requires.fresh p within))

pub returns-clause-cut_short : goal.returns-clause-cut_short
returns-clause-cut_short g c = λ e cost least.
    let h = c.first_sentence.ensures.stopped e in
    subst (λ n. n ≤ 1 + cost * c.args.generator.now.grammar.rules) (sym h.opened.together) (h.few cost least)

pub returns-clause-content : goal.returns-clause-content
returns-clause-content g c = c.first_sentence.ensures.same ∙ sym c.requires.same
