use Rattle.std.proofs.Common.{arith, ap}
use Rattle.cfgast.specs.TreeView.{syntax}
use Rattle.cfgast.proofs.UnusedNodes.{each_one, one_more}
use Rattle.cfgast.proofs.ast.GrammarAST.unused.Goals as goal

pub loop-node-preserved : goal.loop-node-preserved
loop-node-preserved c = one_more (syntax c.args.self.now) c.in_ok-known.known c.in_ok-known.ensures c.known-2.inside.reachable
    (ap (λ x. x.reachable) c.known-2.view_is) c.loop-node.node c.loop-node.unused.items c.push.new.self.items c.is_reachable.result
    (omega (arith, c.loop-node-test.true, c.node_count-node-end.ensures.count)) c.loop-node.invariant c.is_reachable.ensures c.in_ok-push.ensures.items

pub returns : goal.returns
returns c = each_one (syntax c.args.self.now) c.in_ok-known.known c.in_ok-known.ensures c.known-2.inside.reachable
    (ap (λ x. x.reachable) c.known-2.view_is) c.loop-node.node c.loop-node.unused.items
    (omega (arith, c.loop-node-test.false, c.node_count-node-end.ensures.count)) c.loop-node.invariant
