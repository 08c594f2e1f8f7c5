use Rattle.std.proofs.Common.{ℕ, List, [], ◌∷◌, None, codes, sym, ap, subst, ◌∙◌}
use Rattle.std.proofs.lemmas.Option.{same_Some}
use Rattle.cfgrammar.specs.Syntax.{Rule}
use Rattle.cfgrammar.specs.SyntaxView.{rule_view}
use Rattle.cfgfindings.specs.Findings.{IsShadowed}
use Rattle.finding_kinds.specs.declared.finding_kind.FindingKind.TheVariants.{ShadowedRule}
use Rattle.cfgfindings.proofs.Marking.{key_at}
use Rattle.cfgfindings.proofs.Texts.{after_quoted}
use Rattle.cfgfindings.proofs.unused.ShadowedRulesReporter.report.Goals as goal

pub shadowing-requires : goal.shadowing-requires
shadowing-requires c = key_at c.args.self.now.0.now.rules c.args.number _ (sym c.in-Some.ensures)

pub returns-in_default-shadowing : goal.returns-in_default-shadowing
returns-in_default-shadowing c = λ rule token is.
    let same = ap (λ (rule : List ℕ × Rule). rule.0) (same_Some _ _ (sym is.given ∙ sym c.in-Some.ensures)) in
    c.in_default-shadowing.ensures token (subst (λ name. IsShadowed c.args.self.now.0.now name token) same is.shadowed)

pub returns : goal.returns
returns c =
    let token = c.in-Some-shadowing.token in (
      (c.in-Some.name.now, rule_view c.in-Some.rule.now),
      token,
      record { given = sym c.in-Some.ensures; shadowed = c.in-Some-shadowing.ensures },
      c.in_ok-at_both.ensures
          ∙ ap (λ text. record { kind = ShadowedRule; spans = c.in-Some.rule.now.name.1 ∷ (token ∷ []); text = text; hint = None })
          (c.in_ok-text.ensures.ok ∙ after_quoted c.in-Some.name.now (codes "Rule ") (codes " is never used: its name is that of a token")),
    )
