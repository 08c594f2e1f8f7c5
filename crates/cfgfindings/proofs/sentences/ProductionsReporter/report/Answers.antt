use Rattle.std.proofs.Common.{◌≡◌, ◌<◌, ◌++◌, ℕ, All, codes, length, map, string_bytes, unwrap_or, refl, sym, subst, ap, ◌∙◌, arith}
use Rattle.cfgrammar.proofs.Shows.{rule_named}
use Rattle.cfgrammar.specs.Check.{nowhere}
use Rattle.cfgrammar.specs.NumberedSymbols.{sym_of}
use Rattle.cfgrammar.specs.Numbered.{Numbered, core}
use Rattle.cfgrammar.specs.Accessors.{IsSymbolWithin}
use Rattle.finding_kinds.specs.declared.finding_kind.FindingKind.TheVariants.{UnusableProduction}
use Rattle.cfgfindings.proofs.Read.{production_seen, rule_seen}
use Rattle.cfgfindings.proofs.Texts.{as_quoted, shown_at}
use Rattle.cfgfindings.proofs.Unusable.{UsesByRules, first_read, is_unusable, not_unusable}
use Rattle.cfgfindings.proofs.sentences.ProductionsReporter.report.Goals as goal

pub prod_to_rule-requires : goal.prod_to_rule-requires
prod_to_rule-requires c = omega (arith, ap (λ (n : Numbered). n.start_production) c.grammar-grammar.ensures)

pub prod-requires : goal.prod-requires
prod-requires c = omega (arith, ap (λ (n : Numbered). n.start_production) c.grammar-grammar.ensures)

pub first_among-requires : goal.first_among-requires
first_among-requires c = subst (λ g. All (IsSymbolWithin (λ s. s) g) c.prod.result.now) c.grammar-grammar.ensures c.prod.ensures.within

pub rule_name_str-name-requires : goal.rule_name_str-name-requires
rule_name_str-name-requires c = subst (λ (g : Numbered). c.in-Some.rule.0 < length g.rules) (sym c.grammar-grammar.ensures) c.in-Some.ensures.within

pub prod_span-span-requires : goal.prod_span-span-requires
prod_span-span-requires c = omega (arith, ap (λ (n : Numbered). n.start_production) c.grammar-grammar.ensures)

pub returns-in_default : goal.returns-in_default
returns-in_default c =
    let g = c.args.self.now.0.now in
    let h = c.grammar-grammar.result.now in
    let view : h ≡ g = c.grammar-grammar.ensures in
    let p = c.args.number in
    let k = c.to_storage.result in
    let same : k ≡ p = c.to_storage.ensures in
    let law : UsesByRules g = c.usable_productions_hold_sentences.ensures (core g) in
    let within : p < length g.productions = omega (arith, ap (λ (n : Numbered). n.start_production) view, ap (λ (n : Numbered). length n.productions) view) in
    let symbols = map (sym_of (λ (s : ℕ). s)) c.prod.result.now in
    not_unusable g law p within symbols
    (production_seen g h view p k same symbols (λ production. production.symbols) c.prod.ensures.value)
    c.in_default.ensures.first

pub returns : goal.returns
returns c =
    let g = c.args.self.now.0.now in
    let h = c.grammar-grammar.result.now in
    let view : h ≡ g = c.grammar-grammar.ensures in
    let p = c.args.number in
    let k = c.to_storage.result in
    let same : k ≡ p = c.to_storage.ensures in
    let law : UsesByRules g = c.usable_productions_hold_sentences.ensures (core g) in
    let within : p < length g.productions = omega (arith, ap (λ (n : Numbered). n.start_production) view, ap (λ (n : Numbered). length n.productions) view) in
    let rule = c.prod_to_rule.result.0 in
    let symbols = map (sym_of (λ (s : ℕ). s)) c.prod.result.now in
    let owner = production_seen g h view p k same rule (λ production. production.rule) c.prod_to_rule.ensures.value in
    let held = production_seen g h view p k same symbols (λ production. production.symbols) c.prod.ensures.value in
    let q = c.in-Some.rule.0 in
    let name = c.rule_name_str-name.result.now in
    let span = c.prod_span-span.result in
    let named = rule_seen g h view q q refl name (λ rule. rule.name) c.rule_name_str-name.ensures in
    let located = production_seen g h view p k same span (λ production. production.span) c.prod_span-span.ensures in
    let text : string_bytes c.in_ok-text.text ≡ codes "Unusable production: rule '" ++ (name ++ codes "' has no sentence") = c.in_ok-text.ensures.ok in (
      is_unusable g law p within symbols held rule owner c.requires c.if-contains.ensures q c.in-Some.ensures.first,
      q,
      first_read g law p within symbols held q c.in-Some.ensures.first,
      c.in_ok-at.ensures ∙ ap (shown_at UnusableProduction span) text
          ∙ (λ i. shown_at UnusableProduction (unwrap_or (sym located i) nowhere)
          (as_quoted (codes "Unusable production: rule ") (codes " has no sentence") (sym (rule_named g q name named)) i)),
    )
