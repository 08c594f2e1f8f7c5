use Rattle.std.proofs.Common.{MatchBool, length, subst, refl, sym, ap, arith, ◌<◌, ◌∙◌}
use Rattle.cfgtables.specs.Openings.{AreOpenedAtMost, most_openings}
use Rattle.cfganalysis.specs.Inner.Visits.{CanVisit, Visited, left_to_do}
use Rattle.cfgsets.specs.Growth.{CoversEach}
use Rattle.cfgsets.specs.Waiting.{NoneWaits}
use Rattle.cfganalysis.proofs.Fitting.{can_visit, still_few}
use Rattle.cfganalysis.proofs.Visiting.{visited_all, visited_none, few_opened}
use Rattle.cfganalysis.proofs.visits.visit_all.Goals as goal

pub visit_each-requires : goal.visit_each-requires
visit_each-requires g c =
    let all = c.to_usize-prods_len.ensures.value ∙ c.prods_len.ensures in record {
      can = can_visit _ _ _ c.requires.grammar all c.to_usize-prods_len.ensures.range c.to_usize-prods_len.ensures.limit c.requires.small;
      all = all;
      visited = visited_none _ _ _ _ _ _ _ _ c.to_usize-rules.result c.to_usize-prods_len.result _ _ _ c.requires.holds
          (c.to_usize-rules.ensures.value ∙ c.rules_len.ensures.value) all
          c.in_ok-work.ensures.dependents c.in_ok-work.ensures.waiting c.in_ok-work.ensures.grown c.requires.fresh c.requires.all_fresh;
    }

pub loop-init : goal.loop-init
loop-init g c =
    let same = c.in_ok-visit_each.ensures.content in
    let all = c.to_usize-prods_len.ensures.value ∙ c.prods_len.ensures ∙ sym (ap (λ h. length h.productions) same) in
    record {
      content = same;
      visited = subst (λ n. Visited g.A.Analysis.holds g.A.Analysis.covers g.A.Analysis.bits g.A.Analysis.depends_on (g.P.Productions.content c.visit_each.new.productions) n
          c.visit_each.new.analysis c.visit_each.new.work.dependents c.visit_each.new.work.waiting c.visit_each.new.work.grown
          (g.P.Productions.opened c.visit_each.new.productions) (g.P.Productions.opened_all c.visit_each.new.productions)) all c.in_ok-visit_each.ensures.visited;
    }

pub visit_next-requires : goal.visit_next-requires
visit_next-requires g c = record {
  can = subst (CanVisit g.S.Storage.MAX) (sym c.loop.invariant.content) (can_visit _ _ _ c.requires.grammar (c.to_usize-prods_len.ensures.value ∙ c.prods_len.ensures)
      c.to_usize-prods_len.ensures.range c.to_usize-prods_len.ensures.limit c.requires.small);
  visited = c.loop.invariant.visited;
}

pub loop-smaller : goal.loop-smaller
loop-smaller g c = subst (λ b. MatchBool b
    (left_to_do (g.P.Productions.content c.visit_next.new.productions) (g.A.Analysis.bits c.visit_next.new.analysis) c.visit_next.new.work.waiting
    < left_to_do (g.P.Productions.content c.loop.productions) (g.A.Analysis.bits c.loop.analysis) c.loop.work.waiting)
    (NoneWaits c.visit_next.new.work.waiting)) c.loop-test.true c.visit_next.ensures.less

pub loop-preserved : goal.loop-preserved
loop-preserved g c = record { content = c.visit_next.ensures.content ∙ c.loop.invariant.content; visited = c.visit_next.ensures.visited }

pub returns-in_err-visit_each-clause-content : goal.returns-in_err-visit_each-clause-content
returns-in_err-visit_each-clause-content g c = c.in_err-visit_each.ensures.content

pub returns-in_err-visit_each-clause-holds : goal.returns-in_err-visit_each-clause-holds
returns-in_err-visit_each-clause-holds g c = c.in_err-visit_each.ensures.refused

pub returns-in_err-visit_each-clause-few : goal.returns-in_err-visit_each-clause-few
returns-in_err-visit_each-clause-few g c = c.in_err-visit_each.ensures.few

pub returns-in_err-work-clause-holds : goal.returns-in_err-work-clause-holds
returns-in_err-work-clause-holds g c = c.requires.holds

pub returns-in_err-work-clause-few : goal.returns-in_err-work-clause-few
returns-in_err-work-clause-few g c = still_few _ _ _ _ c.requires.fresh c.requires.all_fresh

pub returns : goal.returns
returns g c = record {
  content = c.visit_next.ensures.content ∙ c.loop.invariant.content;
  holds = subst (λ h. g.A.Analysis.holds h c.visit_next.new.analysis) (c.visit_next.ensures.content ∙ c.loop.invariant.content) c.visit_next.ensures.visited.sound;
  covered =
      let none = subst (λ b. MatchBool b
      (left_to_do (g.P.Productions.content c.visit_next.new.productions) (g.A.Analysis.bits c.visit_next.new.analysis) c.visit_next.new.work.waiting
      < left_to_do (g.P.Productions.content c.loop.productions) (g.A.Analysis.bits c.loop.analysis) c.loop.work.waiting)
      (NoneWaits c.visit_next.new.work.waiting)) c.loop-test.false c.visit_next.ensures.less in
      subst (λ h. CoversEach g.A.Analysis.covers h c.visit_next.new.analysis) (c.visit_next.ensures.content ∙ c.loop.invariant.content)
      (visited_all _ _ _ _ _ _ _ _ _ _ _ _ c.visit_next.ensures.visited refl none);
  few =
      let w = c.visit_next.ensures.visited in
      subst (λ h. AreOpenedAtMost (most_openings h) h (g.P.Productions.opened c.visit_next.new.productions) (g.P.Productions.opened_all c.visit_next.new.productions))
      (c.visit_next.ensures.content ∙ c.loop.invariant.content) (few_opened _ _ _ _ _ _ _ _ _ _ _ _ w _ (g.met.A.Analysis.bounded _ _ w.sound) (omega arith));
}
