use Rattle.std.proofs.Common.{ℕ, ◌<◌, arith, get_or, sym, subst, ◌∙◌}
use Rattle.std.proofs.lemmas.List.{get_or_default}
use Rattle.search.proofs.Each.{each_all, each_more, each_none, found_mapped}
use Rattle.cfgrammar.specs.NumberedSymbols.{sym_of}
use Rattle.cfgrammar.specs.Symbol.{Symbol}
use Rattle.cfgrammar.specs.Symbol.TheVariants as symbols
use Rattle.cfgfindings.specs.Inner.Reached.{IsNodeOf}
use Rattle.cfgfindings.proofs.Reached.{reaches_node, symbol_of}
use Rattle.cfgfindings.proofs.useless.reach_symbols.Goals as goal

pub loop-symbol-init : goal.loop-symbol-init
loop-symbol-init c = each_none _ _

pub node_of-requires : goal.node_of-requires
node_of-requires c = c.requires.within c.loop-symbol.symbol-index _ c.loop-symbol-test.true

pub reach-requires : goal.reach-requires
reach-requires c = subst (λ n. c.node_of.result < n) (sym (c.loop-symbol.invariant.shape ∙ c.requires.nodes)) c.node_of.ensures.within

pub loop-symbol-preserved : goal.loop-symbol-preserved
loop-symbol-preserved c =
    let g = c.args.grammar.now in
    let all = c.args.symbols.now in
    let n = c.loop-symbol.symbol-index in
    let symbol : Symbol ℕ = get_or all n (symbols.Rule (record { 0 = 0 })) in
    each_more (λ symbol. IsNodeOf g (sym_of (λ s. s) symbol)) all n symbol _ _ _ c.loop-symbol-test.true (get_or_default all n _ symbol c.loop-symbol-test.true) c.loop-symbol.invariant
    (reaches_node g (sym_of (λ s. s) symbol) (symbol_of g symbol (c.requires.within n _ c.loop-symbol-test.true)) c.node_of.result c.node_of.ensures.value _ _ c.in_ok-reach.ensures)

pub returns : goal.returns
returns c = found_mapped (sym_of (λ s. s)) _ c.args.symbols.now _ _
    (each_all _ _ _ _ _ (omega (arith, c.loop-symbol-test.false, c.loop-symbol.auto.symbol-index-end)) c.loop-symbol.invariant)
