use Rattle.std.proofs.Common.{◌≡◌, ◌++◌, codes, false, refl, string_bytes, sym, subst, ap, ◌∙◌, arith}
use Rattle.cfgrammar.specs.Grammar.{Rule}
use Rattle.cfgrammar.specs.Numbered.{Numbered, core}
use Rattle.cfgfindings.specs.Findings.{rules_added}
use Rattle.cfgfindings.specs.Inner.Unproductive.{UnproductiveOrNot}
use Rattle.cfgfindings.specs.Useless.{IsUseless}
use Rattle.finding_kinds.specs.declared.finding_kind.FindingKind.TheVariants.{UselessSymbol}
use Rattle.cfgfindings.proofs.Read.{rule_seen}
use Rattle.cfgfindings.proofs.Texts.{shown_at, useless_rule_reported}
use Rattle.cfgfindings.proofs.useless.UselessRulesReporter.report.Goals as goal

pub returns : goal.returns
returns c =
    let g = c.args.self.now.0.now in
    let h = c.grammar-grammar.result.now in
    let view : h ≡ g = c.grammar-grammar.ensures ∙ c.reached.view_is in
    let r = c.args.number in
    let k = c.to_storage.result in
    let same : k ≡ r = c.to_storage.ensures in
    let name = c.rule_name_str-name.result.now in
    let span = c.rule_name_span-span.result in
    let added : rules_added g ≡ c.rules_added.result = ap rules_added (sym view) ∙ sym c.rules_added.ensures in
    let productive = subst (λ (n : Numbered). UnproductiveOrNot n r false) c.reached.view_is
    (subst (λ r. UnproductiveOrNot c.reached.inside.unproductive.now r false) same c.if-contains.ensures) in
    let text : string_bytes c.in_ok-text.text ≡ codes "Rule '" ++ (name ++ codes "' is reached only through unusable productions") = c.in_ok-text.ensures.ok in (
      record {
        ours = omega (arith, added, c.if-number-rules_added.false);
        productive = productive;
        useless = subst (λ r. IsUseless (core g) (Rule r)) same (c.if-not-is_useless.ensures.0 refl);
      },
      c.in_ok-at.ensures ∙ ap (shown_at UselessSymbol span) text
          ∙ useless_rule_reported g r name span
          (rule_seen g h view r k same name (λ rule. rule.name) c.rule_name_str-name.ensures)
          (rule_seen g h view r k same span (λ rule. rule.span) c.rule_name_span-span.ensures),
    )
