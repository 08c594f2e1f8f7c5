-- Tokens that look like escapes: `'\n'` has the two characters `\` and `n`.
use Rattle.std.specs.Prelude.{◌≡◌, ℕ, Bool, false, ◌==◌, List, [], ◌∷◌, ◌++◌, codes, Option, None, Some, if◌then◌else◌}
use Rattle.std.specs.Option.{option_and_then}
use Rattle.cfgrammar.specs.FileWords.{Word}
use Rattle.cfgrammar.specs.Syntax.{Syntax}
use Rattle.finding_kinds.specs.declared.finding_kind.FindingKind.TheVariants.{EscapedToken}
use Rattle.text_findings.specs.Finding.{ShownFinding}
use Rattle.text_findings.specs.Words.{token_at}

-- whether a name begins with a backslash and goes on after it
abbrev pub is_escape : List ℕ → Bool
is_escape [] = false
is_escape (first ∷ []) = false
is_escape (first ∷ (second ∷ rest)) = first == 92

-- that the token's name is such a name
abbrev pub escaped_token : Word → ShownFinding
escaped_token word = record {
  kind = EscapedToken;
  spans = word.span ∷ [];
  text = codes "Token '" ++ (word.name ++ codes "' begins with a backslash: a quoted text has no escapes");
  hint = None;
}

-- the finding about a token, if its name is such a name
abbrev pub escaped : Word → Option ShownFinding
escaped word = if is_escape word.name then Some (escaped_token word) else None

-- the name of the n-th token begins with a backslash and goes on after it
abbrev pub ReportsEscaped : Syntax → ℕ → Option ShownFinding → Type 0
ReportsEscaped s n found = found ≡ option_and_then escaped (token_at s n)
