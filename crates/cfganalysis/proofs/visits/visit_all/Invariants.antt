use Rattle.std.proofs.Common.{◌≡◌, length}
use Rattle.cfganalysis.specs.Inner.Visits.{Visited, left_to_do}
use Rattle.cfganalysis.proofs.visits.visit_all.Given as goal

abbrev pub invariant-loop : goal.invariant-loop
invariant-loop g l = record {
  content : g.P.Productions.content l.productions ≡ g.P.Productions.content l.fn.productions;
  visited : Visited g.A.Analysis.holds g.A.Analysis.covers g.A.Analysis.bits g.A.Analysis.depends_on (g.P.Productions.content l.productions)
      (length (g.P.Productions.content l.productions).productions) l.analysis
      l.work.dependents l.work.waiting l.work.grown (g.P.Productions.opened l.productions) (g.P.Productions.opened_all l.productions);
}

abbrev pub decreases-loop : goal.decreases-loop
decreases-loop g l = left_to_do (g.P.Productions.content l.productions) (g.A.Analysis.bits l.analysis) l.work.waiting
