use Rattle.std.proofs.Common.{◌≡◌}
use Rattle.cfganalysis.specs.Inner.Visits.{Visited}
use Rattle.cfganalysis.proofs.visits.visit_each.Given as goal

abbrev pub invariant-loop-number : goal.invariant-loop-number
invariant-loop-number g l = record {
  content : g.P.Productions.content l.productions ≡ g.P.Productions.content l.fn.productions;
  visited : Visited g.A.Analysis.holds g.A.Analysis.covers g.A.Analysis.bits g.A.Analysis.depends_on (g.P.Productions.content l.productions) l.number l.analysis
      l.work.dependents l.work.waiting l.work.grown (g.P.Productions.opened l.productions) (g.P.Productions.opened_all l.productions);
}
