use Rattle.std.proofs.Common.{map, option_map, ap, subst}
use Rattle.std.proofs.lemmas.Result.{IfOk-weaker}
use Rattle.search.specs.Reachable.{FoundBy, Reaches}
use Rattle.cfgast.specs.Inner.Nodes.{IsNodeOf}
use Rattle.cfgast.specs.Unused.{name_of}
use Rattle.cfgitems.specs.SyntaxView.{syntax_view, symbol_view, span_entry}
use Rattle.cfgast.specs.TreeView.{syntax}
use Rattle.cfgast.proofs.Nodes.{expected_named, expected_both}
use Rattle.cfgast.proofs.ast.GrammarAST.reach_expected.Goals as goal

pub returns-in-Some : goal.returns-in-Some
unfolding syntax syntax_view
returns-in-Some c =
    let s = syntax c.args.self.now in
    let named = subst (λ l. Reaches (FoundBy (IsNodeOf s) (map name_of (map symbol_view l))) c.args.search.now c.reach_symbols.new.search)
    c.deref.ensures.value c.in_ok-reach_symbols.ensures in
    IfOk-weaker c.reach_tokens.result _ _ (λ _ w. expected_both s (map span_entry c.in-Some.table.entries) _ _ _
    (ap (option_map (λ table. map span_entry table.entries)) c.in-Some.is) named w) c.reach_tokens.ensures

pub returns-in-None : goal.returns-in-None
unfolding syntax syntax_view
returns-in-None c =
    let s = syntax c.args.self.now in
    expected_named s _ _ (ap (option_map (λ table. map span_entry table.entries)) c.in-None.is)
    (subst (λ l. Reaches (FoundBy (IsNodeOf s) (map name_of (map symbol_view l))) c.args.search.now c.reach_symbols.new.search)
    c.deref.ensures.value c.in_ok-reach_symbols.ensures)
