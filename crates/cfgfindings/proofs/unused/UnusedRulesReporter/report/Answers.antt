use Rattle.std.proofs.Common.{◌≡◌, ◌<◌, ℕ, Bool, true, false, List, [], ◌∷◌, None, Some, MatchBool, get_or, length, slice_get, sym, ap, subst, ◌∙◌, arith}
use Rattle.std.proofs.lemmas.List.{get_or_read}
use Rattle.std.proofs.lemmas.Option.{same_Some}
use Rattle.cfgrammar.specs.Syntax.{Rule, Syntax}
use Rattle.cfgrammar.specs.SyntaxView.{rule_view}
use Rattle.cfgrammar.specs.Unused.{AreUnused, IsUnused, RuleName}
use Rattle.cfgfindings.specs.Findings.{IsShadowed}
use Rattle.finding_kinds.specs.declared.finding_kind.FindingKind.TheVariants.{UnusedRule}
use Rattle.cfgfindings.proofs.Marking.{key_at}
use Rattle.cfgfindings.proofs.unused.UnusedRulesReporter.report.Goals as goal

pub shadowing-requires : goal.shadowing-requires
shadowing-requires c = key_at c.args.self.now.0.now.rules c.args.number _ (sym c.in-Some.ensures)

-- whether a rule is unused, by the bit that was read
by_bit : (s : Syntax) (bits : List Bool) → AreUnused s bits → (n : ℕ) → n < length s.rules → (bit : Bool) → (n < length bits → bit ≡ get_or bits n false)
    → (result : Bool) → bit ≡ result → (rule : List ℕ × Rule) → slice_get s.rules n ≡ Some rule
    → MatchBool result (IsUnused s (RuleName rule.0)) (IsUnused s (RuleName rule.0) → ⊥)
by_bit s bits are n within bit read result is rule at = subst (λ b. MatchBool b (IsUnused s (RuleName rule.0)) (IsUnused s (RuleName rule.0) → ⊥))
    (sym (read (omega (arith, within, are.long))) ∙ is) (are.rules n rule at)

pub returns-then-not-index : goal.returns-then-not-index
returns-then-not-index c = λ rule unused.
    let bits = c.usage.inside.unused.items in
    let n = c.args.number in
    let are : AreUnused c.args.self.now.0.now bits = subst (λ (s : Syntax). AreUnused s bits) c.usage.view_is c.usage.invariant.0 in
    by_bit c.args.self.now.0.now bits are n c.requires c.index.result.now (λ within. get_or_read bits n c.index.result.now within c.index.ensures false) false
    c.if-not-index.true rule unused.given unused.unused

pub returns-in-Some-shadowing : goal.returns-in-Some-shadowing
returns-in-Some-shadowing c = λ rule unused.
    let same = ap (λ (rule : List ℕ × Rule). rule.0) (same_Some _ _ (c.in-Some.ensures ∙ unused.given)) in
    unused.own c.in-Some-shadowing._token (subst (λ name. IsShadowed c.args.self.now.0.now name c.in-Some-shadowing._token) same c.in-Some-shadowing.ensures)

pub returns : goal.returns
returns c =
    let s = c.args.self.now.0.now in
    let bits = c.usage.inside.unused.items in
    let n = c.args.number in
    let rule : List ℕ × Rule = (c.in-Some.name.now, rule_view c.in-Some.rule.now) in
    let are : AreUnused s bits = subst (λ (s : Syntax). AreUnused s bits) c.usage.view_is c.usage.invariant.0 in
    let at : slice_get s.rules n ≡ Some rule = sym c.in-Some.ensures in (
      rule,
      record {
        given = at;
        unused = by_bit s bits are n c.requires c.index.result.now (λ within. get_or_read bits n c.index.result.now within c.index.ensures false) true c.if-not-index.false rule at;
        own = c.in_default-shadowing.ensures;
      },
      c.in_ok-at.ensures ∙ ap (λ text. record { kind = UnusedRule; spans = c.in-Some.rule.now.name.1 ∷ []; text = text; hint = None }) c.in_ok-text.ensures.ok,
    )
