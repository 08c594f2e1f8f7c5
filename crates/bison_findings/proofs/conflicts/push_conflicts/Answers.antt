use Rattle.std.proofs.Common.{◌++◌, refl, ap, subst, ◌∙◌, append_assoc}
use Rattle.std.specs.List.{filter}
use Rattle.std.proofs.lemmas.Result.{on_ok_weaker}
use Rattle.cfgrammar.specs.TreeView.{syntax}
use Rattle.bison_findings.specs.Conflicts.{AreGrouped, all_unmet, most_examples}
use Rattle.bison_findings.proofs.conflicts.push_conflicts.Goals as goal

pub push_grouped-requires : goal.push_grouped-requires
push_grouped-requires c = record {
  levels = c.args.associativities.now;
  states = c.in_ok-conflicts.ensures.states;
  gotos = c.in_ok-conflicts.ensures.gotos;
  conflicts = c.in_ok-conflicts.ensures.conflicts;
}

pub returns : goal.returns
returns c =
    let tables = c.in_ok-conflicts.conflicts in
    let unmet = all_unmet (syntax c.args.ast.now).settings tables.conflicts in
    on_ok_weaker c.push_grouped.result
    (λ h. (
      unmet ++ h.2,
      record {
        x = tables;
        states = c.in_ok-conflicts.ensures.states;
        gotos = c.in_ok-conflicts.ensures.gotos;
        conflicts = c.in_ok-conflicts.ensures.conflicts;
        clashes = h.0;
        are_clashes = h.1;
        grouped = h.2;
        are_grouped = subst (λ clashes. AreGrouped c.args.grammar.now tables.lookaheads.automaton tables.conflicts most_examples clashes h.2)
            (λ i. filter (λ clash. c.in_ok-listing.ensures.listing clash i) h.0) h.3;
        is = refl;
      },
      h.4 ∙ ap (λ all. all ++ h.2) c.in_ok-listing.ensures.unmet ∙ append_assoc c.args.all.now.items unmet h.2,
    ))
    c.push_grouped.ensures
