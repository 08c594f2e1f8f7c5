use Rattle.std.proofs.Common.{◌≡◌, ◌+◌, ◌<◌, ℕ, Bool, true, false, List, [], ◌∷◌, Some, None, MatchBool, get_or, length, option_map, slice_get, string_bytes, refl, sym, ap, subst, ◌∙◌, arith}
use Rattle.std.proofs.lemmas.List.{get_or_read, length-map}
use Rattle.std.proofs.lemmas.Option.{slice_get-map, slice_get_past, slice_get_read}
use Rattle.cfgrammar.specs.Span.{Span}
use Rattle.cfgrammar.specs.Syntax.{Syntax}
use Rattle.cfgrammar.specs.SyntaxView.{rule_entry}
use Rattle.cfgrammar.specs.Unused.{AreUnused, IsUnused, TokenName}
use Rattle.cfgfindings.specs.Findings.{IsRequested}
use Rattle.cfgfindings.specs.Inner.Marks.{AreMarked}
use Rattle.finding_kinds.specs.declared.finding_kind.FindingKind.TheVariants.{UnusedToken}
use Rattle.cfgfindings.proofs.Marking.{marked_as}
use Rattle.cfgfindings.proofs.unused.UnusedTokensReporter.report.Goals as goal
use Rattle.cfgfindings.proofs.unused.UnusedTokensReporter.report.Goals.{then-not-is_unused-via-else-not-is_unused+then-unwrap_or, then-not-is_unused-via-then-not-is_unused}

-- whether a token is unused, by the bit that was read
by_bit : (s : Syntax) (bits : List Bool) → AreUnused s bits → (n : ℕ) → n < length s.tokens → (before : ℕ) → before ≡ length s.rules → (bit : Bool)
    → (before + n < length bits → bit ≡ get_or bits (before + n) false) → (result : Bool) → bit ≡ result → (name : List ℕ) → slice_get s.tokens n ≡ Some name
    → MatchBool result (IsUnused s (TokenName name)) (IsUnused s (TokenName name) → ⊥)
by_bit s bits are n within before count bit read result is name at = subst (λ b. MatchBool b (IsUnused s (TokenName name)) (IsUnused s (TokenName name) → ⊥))
    (ap (λ m. get_or bits (m + n) false) (sym count) ∙ sym (read (omega (arith, within, are.long, count))) ∙ is) (are.tokens n name at)

pub returns-then-not-is_unused : goal.returns-then-not-is_unused
returns-then-not-is_unused c = λ name span unused.
    let s = c.args.self.now.0.now in
    let bits = c.usage.inside.unused.items in
    let marks = c.usage.inside.requested in
    let n = c.args.number in
    let are : AreUnused s bits = subst (λ (s : Syntax). AreUnused s bits) c.usage.view_is c.usage.invariant.0 in
    let marked : AreMarked s.tokens (IsRequested s) marks = subst (λ (s : Syntax). AreMarked s.tokens (IsRequested s) marks) c.usage.view_is c.usage.invariant.2 in
    let count : c.len.result ≡ length s.rules =
    c.len.ensures.len ∙ sym (length-map c.rules.result.now.entries rule_entry) ∙ ap length c.rules.ensures ∙ ap (λ (s : Syntax). length s.rules) c.usage.view_is in
    elim c.then-not-is_unused.branch [
      | then-not-is_unused-via-then-not-is_unused w ↦
          by_bit s bits are n c.requires c.len.result count c.index-is_unused.result.now
          (λ within. get_or_read bits (c.len.result + n) c.index-is_unused.result.now within c.index-is_unused.ensures false) false w.if-not-is_unused.true
          name unused.token unused.unused
      | then-not-is_unused-via-else-not-is_unused+then-unwrap_or w ↦
          unused.free (marked_as s.tokens (IsRequested s) marks marked n name unused.token _ w.get.ensures _ true w.unwrap_or.ensures w.if-unwrap_or.true)
    ]

pub returns-in_default-get : goal.returns-in_default-get
returns-in_default-get c = λ name span unused.
    let n = c.args.number in
    let none : slice_get c.args.self.now.0.now.spans n ≡ None = subst (λ (s : Syntax). slice_get s.spans n ≡ None) c.usage.view_is
    (ap (λ (spans : List Span). slice_get spans n) (sym c.spans.ensures) ∙ slice_get_past c.spans.result.now n c.in_default-get.ensures.lookup.3) in
    let no : None ≡ Some span = sym none ∙ unused.there in cc

pub returns : goal.returns
returns c =
    let s = c.args.self.now.0.now in
    let bits = c.usage.inside.unused.items in
    let marks = c.usage.inside.requested in
    let n = c.args.number in
    let span = c.in-Some-get.span.now in
    let name = string_bytes c.in-Some.name.now in
    let are : AreUnused s bits = subst (λ (s : Syntax). AreUnused s bits) c.usage.view_is c.usage.invariant.0 in
    let marked : AreMarked s.tokens (IsRequested s) marks = subst (λ (s : Syntax). AreMarked s.tokens (IsRequested s) marks) c.usage.view_is c.usage.invariant.2 in
    let count : c.len.result ≡ length s.rules =
    c.len.ensures.len ∙ sym (length-map c.rules.result.now.entries rule_entry) ∙ ap length c.rules.ensures ∙ ap (λ (s : Syntax). length s.rules) c.usage.view_is in
    let token : slice_get s.tokens n ≡ Some name = subst (λ (s : Syntax). slice_get s.tokens n ≡ Some name) c.usage.view_is
    (ap (λ (tokens : List (List ℕ)). slice_get tokens n) (sym c.tokens.ensures) ∙ slice_get-map string_bytes c.tokens.result.now.keys n
    ∙ ap (option_map string_bytes) (sym c.in-Some.ensures.key)) in
    let there : slice_get s.spans n ≡ Some span = subst (λ (s : Syntax). slice_get s.spans n ≡ Some span) c.usage.view_is
    (ap (λ (spans : List Span). slice_get spans n) (sym c.spans.ensures)
    ∙ slice_get_read c.spans.result.now _ n span refl c.in-Some-get.ensures.lookup.3.0 c.in-Some-get.ensures.lookup.1) in (
      name,
      span,
      record {
        token = token;
        there = there;
        unused = by_bit s bits are n c.requires c.len.result count c.index-is_unused.result.now
            (λ within. get_or_read bits (c.len.result + n) c.index-is_unused.result.now within c.index-is_unused.ensures false) true c.if-not-is_unused.false name token;
        free = marked_as s.tokens (IsRequested s) marks marked n name token _ c.get.ensures _ false c.unwrap_or.ensures c.if-unwrap_or.false;
      },
      c.in_ok-at.ensures ∙ ap (λ text. record { kind = UnusedToken; spans = span ∷ []; text = text; hint = None }) c.in_ok-text.ensures.ok,
    )
