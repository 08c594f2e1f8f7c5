use Rattle.std.proofs.Common.{option_map, refl, sym, ap, subst, ◌∙◌}
use Rattle.std.proofs.lemmas.Option.{same_Some}
use Rattle.cfgwords.specs.FileWords.{Word}
use Rattle.cfgast.specs.Inner.Nodes.{IsNodeOf}
use Rattle.cfgast.specs.Unused.{Name, RuleName}
use Rattle.cfgitems.specs.SyntaxView.{syntax_view, named_view}
use Rattle.cfgast.specs.TreeView.{syntax}
use Rattle.cfgast.proofs.ast.GrammarAST.start_node.Goals as goal

pub returns-clause-node : goal.returns-clause-node
unfolding syntax syntax_view
returns-clause-node c node =
    let s = syntax c.args.self.now in
    let given = sym (ap (option_map named_view) c.in_ok-name.ensures.value) in
    let word = named_view c.in_ok-name.field-0.now in
    let name = ap RuleName c.deref.ensures in (
      (λ h. (RuleName word.name, record { word = word; given = given; is = refl }, subst (λ (n : Name). IsNodeOf s n node) name ((c.rule_node.ensures.node node).0 h))),
      (λ h. (c.rule_node.ensures.node node).1 (subst (λ (n : Name). IsNodeOf s n node)
          (sym (name ∙ ap (λ (w : Word). RuleName w.name) (same_Some _ _ (sym given ∙ h.1.given)) ∙ h.1.is)) h.2)),
    )
