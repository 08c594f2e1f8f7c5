use Rattle.std.proofs.Common.{◌≡◌, ◌+◌, ◌++◌, List, map, drop, string_bytes, sym, ap, ◌∙◌}
use Rattle.std.specs.List.{flat_map}
use Rattle.cfgitems.specs.Syntax.{Production, Symbol}
use Rattle.cfgitems.specs.SyntaxView.{production_view, symbol_view}
use Rattle.cfgast.specs.TreeView.{syntax}
use Rattle.bison_errors.specs.Errors.{unknown_after}
use Rattle.bison_tree.proofs.Steps.{opened}
use Rattle.bison_errors.proofs.name_errors.push_all_unknown.Goals as goal

pub loop-production-preserved : goal.loop-production-preserved
loop-production-preserved c =
    let symbols : List Production → List Symbol = flat_map (λ production. production.symbols) in
    let rest = symbols (map production_view (drop (c.loop-production.production-index + 1) c.prods-production-items.result.now)) in
    let next = opened production_view symbols c.prods-production-items.result.now c.loop-production.production-index c.production-item.result
    c.loop-production-test.true c.production-item.is in
    let own : map symbol_view c.as_slice.result.now ++ rest ≡ map symbol_view c.production-item.result.symbols.items ++ rest =
    ap (λ xs. map symbol_view xs ++ rest) c.as_slice.ensures.value in
    c.in_ok-push_unknown.ensures rest
    ∙ ap (λ symbols. c.loop-production.errors.items ++ unknown_after (syntax c.args.ast.now) (map string_bytes c.loop-production.known.keys) symbols) (own ∙ sym next)
    ∙ c.loop-production.invariant
