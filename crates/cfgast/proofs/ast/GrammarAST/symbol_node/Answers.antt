use Rattle.std.proofs.Common.{◌≡◌, ◌↔◌, Some, sym, ap, subst, ◌∙◌}
use Rattle.cfgast.specs.Inner.Nodes.{IsNodeOf}
use Rattle.cfgast.specs.Unused.{Name, TokenName, name_of}
use Rattle.cfgitems.specs.SyntaxView.{symbol_view}
use Rattle.cfgast.specs.TreeView.{syntax}
use Rattle.cfgast.proofs.ast.GrammarAST.symbol_node.Goals as goal

pub returns-in-Token-clause-node : goal.returns-in-Token-clause-node
returns-in-Token-clause-node c node = subst (λ (name : Name). (c.token_node.result ≡ Some node) ↔ IsNodeOf (syntax c.args.self.now) name node)
    (ap TokenName c.deref-in-Token.ensures ∙ ap (λ symbol. name_of (symbol_view symbol)) (sym c.in-Token.is)) (c.token_node.ensures.node node)
