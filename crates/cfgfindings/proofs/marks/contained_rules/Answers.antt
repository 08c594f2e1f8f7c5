use Rattle.std.proofs.Common.{Bool, List, false, length, ap, refl, subst, ◌∙◌}
use Rattle.std.specs.List.{flat_map}
use Rattle.std.proofs.lemmas.List.{length-replicate}
use Rattle.cfgrammar.specs.SyntaxView.{rule_entry}
use Rattle.cfgrammar.specs.TreeView.{syntax}
use Rattle.cfgfindings.specs.Findings.{IsContained}
use Rattle.cfgfindings.specs.Inner.Marks.{Marks, contained_names, rule_keys}
use Rattle.cfgfindings.proofs.Marking.{are_marked, contained, entry_count, from_contained}
use Rattle.cfgfindings.proofs.marks.contained_rules.Goals as goal

pub mark_productions-requires : goal.mark_productions-requires
mark_productions-requires c =
    ap length c.in_ok-contained.ensures ∙ length-replicate c.len.result false ∙ c.len.ensures.len
    ∙ entry_count rule_entry (λ e. refl) c.rules.result.now.entries (syntax c.args.ast.now).rules c.rules.ensures

pub returns : goal.returns
returns c =
    let s = syntax c.args.ast.now in
    let new = c.mark_productions.new.marks in
    are_marked (rule_keys s) (IsContained s) (flat_map contained_names s.productions) (contained s) (from_contained s) c.len.result new
    (subst (λ (old : List Bool). Marks (rule_keys s) (flat_map contained_names s.productions) old new) c.in_ok-contained.ensures c.mark_productions.ensures)
