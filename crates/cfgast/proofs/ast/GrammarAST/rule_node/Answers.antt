use Rattle.std.proofs.Common.{◌≡◌, ◌↔◌, Some, bytes_eq, sym, subst, ◌∙◌}
use Rattle.std.specs.List.{IsDistinct}
use Rattle.cfgitems.specs.SyntaxView.{syntax_view}
use Rattle.cfgast.specs.Inner.Nodes.{IsNodeOf}
use Rattle.cfgast.specs.TreeView.{syntax}
use Rattle.cfgast.specs.Unused.{RuleName}
use Rattle.cfgast.proofs.Found.{names_differ, rule_names, rule_position}
use Rattle.cfgast.proofs.Nodes.{found_if_there}
use Rattle.cfgast.proofs.ast.GrammarAST.rule_node.Goals as goal

pub returns-clause-node : goal.returns-clause-node
unfolding syntax syntax_view
returns-clause-node c n =
    let s = syntax c.args.self.now in
    let entries = c.args.self.now.syntax.rules.entries in
    let distinct = subst (IsDistinct bytes_eq) (sym (rule_names entries)) (names_differ _ c.get_index_of.ensures.unique) in
    subst (λ o. (o ≡ Some n) ↔ IsNodeOf s (RuleName c.args.name.now) n) (sym (c.get_index_of.ensures.index ∙ sym (rule_position c.args.name.now entries)))
    (found_if_there _ distinct c.args.name.now n)
