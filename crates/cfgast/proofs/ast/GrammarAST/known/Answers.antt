use Rattle.std.proofs.Common.{◌∙◌}
use Rattle.cfgast.specs.TreeView.{syntax}
use Rattle.cfgast.proofs.Nodes.{knows}
use Rattle.cfgast.proofs.ast.GrammarAST.known.Goals as goal

pub returns : goal.returns
returns c = knows (syntax c.args.self.now) _ c.start_node.ensures.node _ _ (c.in_ok-search.ensures.nodes ∙ c.node_count.ensures.count)
    c.in_ok-search.ensures.reachable c.in_ok-reach_expected.ensures
