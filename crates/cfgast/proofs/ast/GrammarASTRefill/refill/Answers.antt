use Rattle.std.proofs.Common.{◌≡◌, rules, option_map, string_bytes}
use Rattle.std.proofs.lemmas.List.Elements.{same_from_all_zip}
use Rattle.lemmas.proofs.Copies.{map-copies, option_map-copies}
use Rattle.cfgitems.specs.SyntaxView.{syntax_view, named_view, rule_entry, production_view, symbol_view, occurrence_view}
use Rattle.cfgast.specs.TreeView.{syntax}
use Rattle.cfgast.proofs.ast.GrammarASTRefill.refill.Goals as goal

pub returns-clause-copied : goal.returns-clause-copied
unfolding syntax syntax_view
returns-clause-copied c =
    let start : option_map named_view c.clone_from.new.self ≡ option_map named_view c.args.from.now.syntax.start =
    option_map-copies _ named_view (λ x y h. search rules) _ _ c.in_ok-clone_from.ensures.ok in
    λ i. record {
      start = start i;
      rules = map-copies _ rule_entry (λ x y h. λ i. (h.0 i, h.1 i)) _ _ c.in_ok-clone_from-2.ensures.ok i;
      productions = map-copies _ production_view (λ x y h. h) _ _ c.in_ok-clone_from-3.ensures.ok.0 i;
      production_rules = same_from_all_zip _ _ _ c.in_ok-clone_from-4.ensures.ok.0 (λ x y h. search rules) i;
      token_directives = same_from_all_zip _ _ _ c.in_ok-clone_from-5.ensures.ok (λ x y h. search rules) i;
      tokens = map-copies _ string_bytes (λ x y h. h) _ _ c.in_ok-clone_from-6.ensures.ok i;
      spans = same_from_all_zip _ _ _ c.in_ok-clone_from-7.ensures.ok.0 (λ x y h. search rules) i;
      tables = c.in_ok-clone_from-8.ensures.ok i;
      settings = c.in_ok-clone_from-9.ensures.ok i;
      expect_unused = map-copies _ symbol_view (λ x y h. h) _ _ c.in_ok-clone_from-10.ensures.ok.0 i;
      repeated_tokens = map-copies _ named_view (λ x y h. search rules) _ _ c.in_ok-clone_from-11.ensures.ok.0 i;
      overridden_precedences = map-copies _ named_view (λ x y h. search rules) _ _ c.in_ok-clone_from-12.ensures.ok.0 i;
      occurrences = map-copies _ occurrence_view (λ x y h. h) _ _ c.in_ok-clone_from-13.ensures.ok.0 i;
    }
