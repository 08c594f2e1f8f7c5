use Rattle.std.proofs.Common.{◌≡◌, [], ◌∷◌, ◌++◌, map, length, position, string_bytes, is_some, sym, ap, ◌∙◌, true≢false}
use Rattle.std.specs.Map.{keys_of, lookup}
use Rattle.std.specs.Str.{bytes_eq}
use Rattle.std.proofs.lemmas.List.{map-append}
use Rattle.lemmas.proofs.Lookups.{found-lookup}
use Rattle.lemmas.proofs.Positions.{position_found}
use Rattle.cfgitems.specs.Syntax.{Syntax, index_of}
use Rattle.cfgitems.specs.Building.{listed}
use Rattle.cfgitems.specs.SyntaxView.{syntax_view, rule_entry, rule_view, production_view}
use Rattle.cfgast.specs.TreeView.{syntax}
use Rattle.cfgitems.specs.declared.production.Production.{Production}
use Rattle.cfgitems.proofs.Views.{is_key, has_entry-entries, rule_index}
use Rattle.cfgast.proofs.ast.GrammarAST.add_prod.Goals as goal

pub returns-in_default-clause-added : goal.returns-in_default-clause-added
unfolding syntax syntax_view
returns-in_default-clause-added c =
    let name = string_bytes c.args.rule in
    let rules = c.args.self.now.syntax.rules.entries in
    absurd (true≢false (sym c.requires ∙ found-lookup (bytes_eq name) (map rule_entry rules) ∙ has_entry-entries rule_view name rules
    ∙ ap (λ n. is_some (lookup (is_key n) rules)) (sym c.as_str-name.ensures.value) ∙ sym c.in_default.ensures.found))

pub returns-clause-added : goal.returns-clause-added
unfolding syntax syntax_view
returns-clause-added c =
    let old = c.args.self.now.syntax in
    let name = string_bytes c.args.rule in
    let named = c.as_str-name.ensures.value in
    let made : Production = record { symbols = c.args.symbols; precedence = c.args.precedence; action = c.args.action; prod_span = c.args.prod_span } in
    let index : c.in-Some.index ≡ index_of name (map (λ rule. rule.0) (map rule_entry old.rules.entries)) =
    position_found (is_key name) (keys_of old.rules.entries) c.in-Some.index (c.in-Some.ensures.index ∙ ap (λ n. position (is_key n) (keys_of old.rules.entries)) named) ∙ sym (rule_index name old.rules.entries) in
    let next = c.in_ok-list_next.ensures.listed in
    let rules : map rule_entry c.list_next.new.self.syntax.rules.entries ≡ map (listed name (length (map production_view old.prods.items))) (map rule_entry old.rules.entries) =
    ap (λ (s : Syntax). s.rules) next ∙ ap (λ n. map (listed n (length (map production_view old.prods.items))) (map rule_entry old.rules.entries)) named in
    let productions : map production_view c.push_reserved-2.new.self.items ≡ map production_view old.prods.items ++ production_view made ∷ [] =
    ap (map production_view) c.push_reserved-2.ensures.items ∙ map-append production_view c.list_next.new.self.syntax.prods.items (made ∷ [])
    ∙ ap (λ (s : Syntax). s.productions ++ production_view made ∷ []) next in
    λ i. record (next i) {
      rules = rules i;
      productions = productions i;
      production_rules = (c.push_reserved.ensures.items ∙ (λ i. (next i).production_rules ++ index i ∷ [])) i;
    }
