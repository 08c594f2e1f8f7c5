use Rattle.std.proofs.Common.{◌<◌, length, arith, refl, sym, subst, ◌∙◌, Result, Ok, Err, OnErr}
use Rattle.cfgtables.specs.Openings.{AreOpenedAtMost, most_openings}
use Rattle.cfganalysis.specs.Inner.Visits.{CanVisit}
use Rattle.cfganalysis.proofs.Visiting.{few_refused}
use Rattle.cfganalysis.proofs.visits.visit_each.Goals as goal

on_err : {A E P : Type 0} (r : Result A E) → P → OnErr r P
on_err (Ok a) p = tt
on_err (Err e) p = p

pub returns-in_err-visit_first-clause-few : goal.returns-in_err-visit_first-clause-few
returns-in_err-visit_first-clause-few g c =
    let w = c.loop-number.invariant in
    on_err _ (subst (λ h. AreOpenedAtMost (most_openings h) h (g.P.Productions.opened c.visit_first.new.productions) (g.P.Productions.opened_all c.visit_first.new.productions)) w.content
    (few_refused _ _ _ _ _ _ _ _ _ _ _ _ w.visited _ _ _ _ (g.met.A.Analysis.bounded _ _ w.visited.sound)
    (subst (λ h. c.loop-number.number < length h.productions) (sym w.content) (omega (arith, c.requires.all, c.loop-number-test.true)))
    c.in_err-visit_first.ensures.opens))

pub returns-in_err-visit_first-clause-refused : goal.returns-in_err-visit_first-clause-refused
returns-in_err-visit_first-clause-refused g c =
    let w = c.loop-number.invariant in
    on_err _ (subst (λ h. g.A.Analysis.holds h c.visit_first.new.analysis) w.content
    (subst (g.A.Analysis.holds (g.P.Productions.content c.loop-number.productions)) (sym c.in_err-visit_first.ensures.refused) w.visited.sound))

pub returns-in_err-visit_first-clause-content : goal.returns-in_err-visit_first-clause-content
returns-in_err-visit_first-clause-content g c = c.in_err-visit_first.ensures.opens.stays ∙ c.loop-number.invariant.content

pub visit_first-requires : goal.visit_first-requires
visit_first-requires g c = record {
  can = subst (CanVisit g.S.Storage.MAX) (sym c.loop-number.invariant.content) c.requires.can;
  number = subst (λ h. c.loop-number.number < length h.productions) (sym c.loop-number.invariant.content) (omega (arith, c.requires.all, c.loop-number-test.true));
  visited = c.loop-number.invariant.visited;
}

pub loop-number-init : goal.loop-number-init
loop-number-init g c = record { content = refl; visited = c.requires.visited }

pub loop-number-preserved : goal.loop-number-preserved
loop-number-preserved g c = record {
  content = c.in_ok-visit_first.ensures.opens.stays ∙ c.loop-number.invariant.content;
  visited = c.in_ok-visit_first.ensures.visited;
}
