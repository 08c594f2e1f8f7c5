use Rattle.std.proofs.Common.{ap, subst, sym}
use Rattle.cfgtables.specs.Openings.{Counts}
use Rattle.cfganalysis.specs.ProductiveRules.{AreProductiveRules}
use Rattle.cfganalysis.proofs.ProductiveVisits.{are_productive}
use Rattle.cfganalysis.proofs.productive.productive_rules.Goals as goal

pub returns : goal.returns
returns g c = subst (AreProductiveRules (g.T.Tables.grammar c.args.tables.now)) (sym c.productive.view_is)
    (subst (λ h. AreProductiveRules h c.visit_all.new.analysis) (ap (λ (x : Counts). x.grammar) c.in_ok-productions.ensures)
    (are_productive _ _ c.in_ok-visit_all.ensures.covered c.in_ok-visit_all.ensures.holds))
