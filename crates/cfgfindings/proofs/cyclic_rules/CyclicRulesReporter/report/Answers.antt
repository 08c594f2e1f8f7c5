use Rattle.std.proofs.Common.{None, Some, IfOk, subst}
use Rattle.cfgfindings.specs.Findings.{ReportsGroup}
use Rattle.cfgfindings.proofs.OwnCycles.{found_at, reports_none}
use Rattle.cfgfindings.proofs.cyclic_rules.CyclicRulesReporter.report.Goals as goal

pub group_finding-requires : goal.group_finding-requires
group_finding-requires c = record {
  steps = c.self.invariant.are_steps;
  group = found_at c.self.inside.grammar.now _ c.self.view_is _ c.self.invariant.are_groups c.args.number c.requires _ (Some c.in-Some.group) c.index.ensures c.in-Some.is;
}

pub returns-in-Some : goal.returns-in-Some
returns-in-Some c = subst (λ g. IfOk c.group_finding.result (ReportsGroup g c.args.number)) c.self.view_is c.group_finding.ensures

pub returns-in-None : goal.returns-in-None
returns-in-None c =
    let g = c.self.inside.grammar.now in
    let found = found_at g _ c.self.view_is _ c.self.invariant.are_groups c.args.number c.requires _ None c.index.ensures c.in-None.is in
    subst (λ g. ReportsGroup g c.args.number None) c.self.view_is (reports_none c.unit_steps_are_derivations.ensures g c.args.number found)
