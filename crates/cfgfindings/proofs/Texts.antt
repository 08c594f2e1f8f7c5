-- The texts of findings, as they are written.
use Rattle.std.proofs.Common.{◌≡◌, ℕ, List, [], ◌∷◌, ◌++◌, Option, Some, None, codes, option_map, slice_get, unwrap_or, sym, ap, ◌∙◌, append_assoc}
use Rattle.std.specs.Option.{option_map_or}
use Rattle.cfgrammar.specs.Span.{Span}
use Rattle.cfgrammar.specs.Check.{nowhere}
use Rattle.cfgrammar.specs.Numbered.{Numbered, NumberedToken}
use Rattle.cfgrammar.specs.Accessors.{rule_part, token_part}
use Rattle.cfgrammar.proofs.Shows.{rule_named, token_named}
use Rattle.cfgfindings.specs.Shown.{ShownFinding, quoted, token_span, useless_rule, useless_token}
use Rattle.finding_kinds.specs.declared.finding_kind.FindingKind.{FindingKind}
use Rattle.finding_kinds.specs.declared.finding_kind.FindingKind.TheVariants.{UselessSymbol}

-- what comes after a name in quotes
pub after_quoted : (name prefix back : List ℕ) → prefix ++ (codes "'" ++ (name ++ (codes "'" ++ back))) ≡ prefix ++ (quoted name ++ back)
after_quoted name prefix back = ap (λ t. prefix ++ (codes "'" ++ t)) (sym (append_assoc name (codes "'") back))

-- a finding at some spans, and at one
abbrev pub shown_with : FindingKind → List Span → List ℕ → ShownFinding
shown_with kind spans text = record { kind = kind; spans = spans; text = text; hint = None }

abbrev pub shown_at : FindingKind → Span → List ℕ → ShownFinding
shown_at kind span text = shown_with kind (span ∷ []) text

-- a text with a name in quotes, as it is written and as it is shown
pub as_quoted : (prefix back : List ℕ) {name shown : List ℕ} → name ≡ shown
    → prefix ++ (codes "'" ++ (name ++ (codes "'" ++ back))) ≡ prefix ++ (quoted shown ++ back)
as_quoted prefix back {name = name} same = after_quoted name prefix back ∙ ap (λ n. prefix ++ (quoted n ++ back)) same

module _ (g : Numbered) where
  pub useless_rule_reported : (r : ℕ) (name : List ℕ) (span : Span) → rule_part (λ rule. rule.name) g r ≡ Some name → rule_part (λ rule. rule.span) g r ≡ Some span
      → shown_at UselessSymbol span (codes "Rule '" ++ (name ++ codes "' is reached only through unusable productions")) ≡ useless_rule g r
  useless_rule_reported r name span named located =
      λ i. shown_at UselessSymbol (unwrap_or (sym located i) nowhere)
      (as_quoted (codes "Rule ") (codes " is reached only through unusable productions") (sym (rule_named g r name named)) i)

  module _ (t : ℕ) where
    token_located : (span : Option Span) → token_part (λ token. token.span) g t ≡ Some span → unwrap_or span nowhere ≡ token_span g t
    token_located span located = go (slice_get g.tokens t) located
      where
        go : (o : Option NumberedToken) → option_map (λ token. token.span) o ≡ Some span → unwrap_or span nowhere ≡ option_map_or (λ token. unwrap_or token.span nowhere) o nowhere
        go None at = let no : None ≡ Some span = at in cc
        go (Some token) at =
            let same : span ≡ token.span = cc in
            ap (λ s. unwrap_or s nowhere) same

    pub useless_token_reported : (name : List ℕ) (span : Option Span) → token_part (λ token. token.name) g t ≡ Some (Some name) → token_part (λ token. token.span) g t ≡ Some span
        → shown_at UselessSymbol (unwrap_or span nowhere) (codes "Token '" ++ (name ++ codes "' is reached only through unusable productions")) ≡ useless_token g t
    useless_token_reported name span named located =
        λ i. shown_at UselessSymbol (token_located span located i)
        (as_quoted (codes "Token ") (codes " is reached only through unusable productions") (sym (token_named g t (Some name) named)) i)
