use Rattle.std.proofs.Common.{◌<◌, IfSome, arith, map, sym, subst, ◌∙◌}
use Rattle.search.proofs.Reaching.{reaches_as}
use Rattle.search.proofs.Each.{each_none, each_more, each_all, found_mapped}
use Rattle.cfgast.specs.Inner.Nodes.{IsNodeOf}
use Rattle.cfgast.specs.Unused.{name_of}
use Rattle.cfgitems.specs.SyntaxView.{symbol_view}
use Rattle.cfgast.specs.TreeView.{syntax}
use Rattle.cfgast.proofs.ast.GrammarAST.reach_symbols.Goals as goal

pub loop-symbol-init : goal.loop-symbol-init
loop-symbol-init c = each_none _ _

pub reach_found-requires : goal.reach_found-requires
reach_found-requires c = subst (λ m. IfSome c.symbol_node.result (λ n. n < m)) (sym (c.loop-symbol.invariant.shape ∙ c.requires)) c.symbol_node.ensures.within

pub loop-symbol-preserved : goal.loop-symbol-preserved
loop-symbol-preserved c = each_more _ _ _ _ _ _ _ (omega (arith, c.loop-symbol-test.true)) c.symbol-item.is c.loop-symbol.invariant
    (reaches_as _ _ _ _ (λ n. (c.symbol_node.ensures.node n).0) (λ n. (c.symbol_node.ensures.node n).1) c.in_ok-reach_found.ensures)

pub returns : goal.returns
returns c =
    let Finds = IsNodeOf (syntax c.args.self.now) in
    let symbols = c.args.symbols.now in
    found_mapped name_of Finds (map symbol_view symbols) _ _ (found_mapped symbol_view (λ symbol. Finds (name_of symbol)) symbols _ _
    (each_all _ _ _ _ _ (omega (arith, c.loop-symbol-test.false, c.loop-symbol.auto.symbol-index-end)) c.loop-symbol.invariant))
