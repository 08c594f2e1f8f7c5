use Rattle.std.proofs.Common.{◌≡◌, ◌++◌, ◌∷◌, inr, Some, codes, map, string_bytes, sym, subst, ◌∙◌}
use Rattle.cfgrammar.specs.Accessors.{rule_part}
use Rattle.cfgrammar.specs.Numbered.{Numbered}
use Rattle.cfgrammar.specs.TreeView.{syntax}
use Rattle.cfgrammar.specs.Unused.{IsStart, RuleName}
use Rattle.cfgrammar.proofs.Shows.{rule_named}
use Rattle.finding_kinds.specs.declared.finding_kind.FindingKind.TheVariants.{NoSentence}
use Rattle.cfgfindings.specs.Findings.{AreOthers, IsFirstOfSinkGroup}
use Rattle.cfgfindings.specs.Shown.{rule_span}
use Rattle.cfgfindings.proofs.Texts.{as_quoted, shown_with}
use Rattle.cfgfindings.proofs.unproductive_rules.UnproductiveRulesReporter.report.Goals as goal

pub returns-then-not-is_first_of_sink_group : goal.returns-then-not-is_first_of_sink_group
returns-then-not-is_first_of_sink_group c =
    let s = syntax c.args.self.now.ast.now in
    let g = c.args.self.now.sink_groups.now in
    let h = c.grammar-grammar.result.now in
    let view : h ≡ g = c.grammar-grammar.ensures ∙ c.unproductive-unproductive.ensures in
    let r = c.args.number in
    let name = c.in-Some.name.now in
    let named = subst (λ (n : Numbered). rule_part (λ rule. rule.name) n r ≡ Some name) c.unproductive-unproductive.ensures c.in-Some.ensures.1 in (
      λ only. c.if-is_start.ensures (subst (λ n. IsStart s (RuleName n)) (rule_named g r name named) only.start),
      λ first. c.if-not-is_first_of_sink_group.ensures (subst (λ (n : Numbered). IsFirstOfSinkGroup s n r) (sym view) first),
    )

pub returns : goal.returns
returns c =
    let g = c.args.self.now.sink_groups.now in
    let h = c.grammar-grammar.result.now in
    let view : h ≡ g = c.grammar-grammar.ensures ∙ c.unproductive-unproductive.ensures in
    let r = c.args.number in
    let name = c.in-Some.name.now in
    let named = subst (λ (n : Numbered). rule_part (λ rule. rule.name) n r ≡ Some name) c.unproductive-unproductive.ensures c.in-Some.ensures.1 in
    let (others, are, shown) = c.in_ok-with_others-2.ensures in
    let text : string_bytes c.in_ok-text-2.text ≡ codes "Rule '" ++ (name ++ codes "' has no sentence") = c.in_ok-text-2.ensures.ok in (
      others,
      subst (λ (n : Numbered). AreOthers n r others) view are,
      inr (
        subst (λ (n : Numbered). IsFirstOfSinkGroup (syntax c.args.self.now.ast.now) n r) view c.if-not-is_first_of_sink_group.ensures,
        shown ∙ (λ i. shown_with NoSentence (map (rule_span (view i)) (r ∷ others)) ((text ∙ as_quoted (codes "Rule ") (codes " has no sentence") (sym (rule_named g r name named))) i)),
      ),
    )
