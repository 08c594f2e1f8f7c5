use Rattle.std.proofs.Common.{◌≡◌, ◌++◌, Some, codes, length, refl, string_bytes, unwrap_or, subst, ap, ◌∙◌, arith}
use Rattle.cfgrammar.specs.Check.{nowhere}
use Rattle.cfgrammar.specs.Grammar.{Token}
use Rattle.cfgrammar.specs.Numbered.{Numbered, core}
use Rattle.cfgfindings.specs.Useless.{IsUseless}
use Rattle.finding_kinds.specs.declared.finding_kind.FindingKind.TheVariants.{UselessSymbol}
use Rattle.cfgfindings.proofs.Read.{token_seen}
use Rattle.cfgfindings.proofs.Texts.{shown_at, useless_token_reported}
use Rattle.cfgfindings.proofs.useless.UselessTokensReporter.report.Goals as goal

pub returns : goal.returns
returns c =
    let g = c.args.self.now.0.now in
    let h = c.grammar-grammar.result.now in
    let view : h ≡ g = c.grammar-grammar.ensures ∙ c.reached.view_is in
    let t = c.args.number in
    let k = c.to_storage.result in
    let same : k ≡ t = c.to_storage.ensures in
    let name = c.in-Some.name.now in
    let span = c.token_span.result in
    let located : c.unwrap_or-span.result ≡ unwrap_or span nowhere = c.unwrap_or-span.ensures ∙ ap (unwrap_or span) c.new.ensures in
    let text : string_bytes c.in_ok-text.text ≡ codes "Token '" ++ (name ++ codes "' is reached only through unusable productions") = c.in_ok-text.ensures.ok in (
      record {
        named = omega (arith, same, c.in-Some.ensures.named.0 refl, ap (λ (n : Numbered). length n.tokens) view);
        useless = subst (λ t. IsUseless (core g) (Token t)) same (c.if-not-is_useless.ensures.0 refl);
      },
      c.in_ok-at.ensures ∙ (λ i. shown_at UselessSymbol (located i) (text i))
          ∙ useless_token_reported g t name span
          (token_seen g h view t k same (Some name) (λ token. token.name) c.in-Some.ensures.value)
          (token_seen g h view t k same span (λ token. token.span) c.token_span.ensures),
    )
