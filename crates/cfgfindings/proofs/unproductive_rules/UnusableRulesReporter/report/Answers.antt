use Rattle.std.proofs.Common.{◌≡◌, ◌++◌, MatchBool, Some, codes, string_bytes, unwrap_or, sym, ap, subst, ◌∙◌}
use Rattle.cfgrammar.specs.Accessors.{rule_part}
use Rattle.cfgrammar.specs.Check.{nowhere}
use Rattle.cfgrammar.specs.Numbered.{Numbered}
use Rattle.cfgrammar.specs.TreeView.{syntax}
use Rattle.cfgrammar.specs.Unused.{IsStart, RuleName}
use Rattle.cfgrammar.proofs.Shows.{rule_named}
use Rattle.finding_kinds.specs.declared.finding_kind.FindingKind.TheVariants.{UnusableRule}
use Rattle.cfgfindings.specs.Findings.{IsUnproductiveRule}
use Rattle.cfgfindings.proofs.Read.{rule_seen}
use Rattle.cfgfindings.proofs.Texts.{as_quoted, shown_at}
use Rattle.cfgfindings.proofs.UnproductiveRules.{is_sink_by, no_sink_by}
use Rattle.cfgfindings.proofs.unproductive_rules.UnusableRulesReporter.report.Goals as goal
use Rattle.cfgfindings.proofs.unproductive_rules.UnusableRulesReporter.report.Goals.{then-is_start-via-then-is_start, then-is_start-via-else-is_start+then-not-is_empty}

pub returns-then-is_start : goal.returns-then-is_start
returns-then-is_start c = λ unusable.
    let s = syntax c.args.self.now.ast.now in
    let g = c.args.self.now.sink_groups.now in
    let r = c.args.number in
    let name = c.in-Some.name.now in
    let named = subst (λ (n : Numbered). rule_part (λ rule. rule.name) n r ≡ Some name) c.unproductive-unproductive.ensures c.in-Some.ensures.1 in
    elim c.then-is_start.branch [
      | then-is_start-via-then-is_start w ↦
          let starts : IsStart s (RuleName name) = subst (λ b. MatchBool b (IsStart s (RuleName name)) (IsStart s (RuleName name) → ⊥)) w.if-is_start.true c.is_start.ensures in
          unusable.no_start (subst (λ n. IsStart s (RuleName n)) (sym (rule_named g r name named)) starts)
      | then-is_start-via-else-is_start+then-not-is_empty w ↦
          unusable.no_sink (is_sink_by g r w.group.result.now w.group.ensures w.is_empty.result w.is_empty.ensures w.if-not-is_empty.true)
    ]

pub returns : goal.returns
returns c =
    let s = syntax c.args.self.now.ast.now in
    let g = c.args.self.now.sink_groups.now in
    let h = c.grammar-grammar.result.now in
    let r = c.args.number in
    let name = c.in-Some.name.now in
    let span = c.rule_name_span-span.result in
    let named = subst (λ (n : Numbered). rule_part (λ rule. rule.name) n r ≡ Some name) c.unproductive-unproductive.ensures c.in-Some.ensures.1 in
    let located = rule_seen g h (c.grammar-grammar.ensures ∙ c.unproductive-unproductive.ensures) r c.to_storage.result c.to_storage.ensures span (λ rule. rule.span) c.rule_name_span-span.ensures in
    let other : IsStart s (RuleName name) → ⊥ = subst (λ b. MatchBool b (IsStart s (RuleName name)) (IsStart s (RuleName name) → ⊥)) c.if-is_start.false c.is_start.ensures in
    let text : string_bytes c.in_ok-text.text ≡ codes "Unusable rule '" ++ (name ++ codes "': each of its productions has a rule without a sentence") = c.in_ok-text.ensures.ok in (
      record {
        unproductive = subst (λ (n : Numbered). IsUnproductiveRule n r) c.unproductive-unproductive.ensures c.in-Some.ensures.0;
        no_sink = no_sink_by g r c.group.result.now c.group.ensures c.is_empty.result c.is_empty.ensures c.if-not-is_empty.false;
        no_start = λ start. other (subst (λ n. IsStart s (RuleName n)) (rule_named g r name named) start);
      },
      c.in_ok-at.ensures ∙ ap (shown_at UnusableRule span) text
          ∙ (λ i. shown_at UnusableRule (unwrap_or (sym located i) nowhere)
          (as_quoted (codes "Unusable rule ") (codes ": each of its productions has a rule without a sentence") (sym (rule_named g r name named)) i)),
    )
