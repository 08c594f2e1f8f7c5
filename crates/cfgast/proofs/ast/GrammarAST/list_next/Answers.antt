use Rattle.std.proofs.Common.{arith, ◌≡◌, map, length, ap, ◌∙◌}
use Rattle.std.proofs.lemmas.List.{length-map}
use Rattle.std.proofs.lemmas.Result.{on_ok_weaker}
use Rattle.cfgitems.specs.Building.{listed}
use Rattle.cfgitems.specs.SyntaxView.{syntax_view, rule_entry, production_view}
use Rattle.cfgast.specs.TreeView.{syntax}
use Rattle.cfgast.proofs.ast.GrammarAST.list_next.Goals as goal

pub returns-clause-listed : goal.returns-clause-listed
unfolding syntax syntax_view
returns-clause-listed c =
    let old = c.args.self.now.syntax in
    let index : c.len-at.result ≡ length (map production_view old.prods.items) = omega (arith, c.len-at.ensures, length-map old.prods.items production_view) in
    on_ok_weaker c.list_production.result (λ done. λ i. record (syntax_view old) {
      rules = (done ∙ ap (λ n. map (listed c.args.name.now n) (map rule_entry old.rules.entries)) index) i;
      productions = map production_view (c.in_ok-reserve.ensures.items i);
      production_rules = c.in_ok-reserve-2.ensures.items i;
    }) c.list_production.ensures.listed
