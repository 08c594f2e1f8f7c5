-- Commas between words, which Bison reads as blanks.
use Rattle.std.specs.Prelude.{◌≡◌, ℕ, Bool, true, false, ◌==◌, ◌&&◌, ◌+◌, not, List, [], ◌∷◌, codes, get_or, slice_get, Option, None, Some, if◌then◌else◌}
use Rattle.std.specs.Option.{option_and_then}
use Rattle.bison_words.specs.Words.{Lexeme, Mark, Word}
use Rattle.finding_kinds.specs.declared.finding_kind.FindingKind.TheVariants.{StrayComma}
use Rattle.text_findings.specs.Finding.{ShownFinding}
use Rattle.text_findings.specs.References.{after_blanks}

-- what follows the last `%%` is no word
abbrev pub is_mark : Lexeme → Bool
is_mark Mark = true
is_mark _ = false

-- that a comma is at this offset
abbrev pub stray_comma : ℕ → ShownFinding
stray_comma offset = record {
  kind = StrayComma;
  spans = record { start = offset; end = offset + 1 } ∷ [];
  text = codes "Stray ',': it is read as a blank";
  hint = None;
}

-- the finding about what follows a word
abbrev pub comma_after : List ℕ → Word → Option ShownFinding
comma_after text word =
    if not (is_mark word.lexeme) && (get_or text (after_blanks text word.span.end) 0 == 44)
    then Some (stray_comma (after_blanks text word.span.end)) else None

-- a comma follows the n-th word, maybe after white space
abbrev pub ReportsStrayComma : List ℕ → List Word → ℕ → Option ShownFinding → Type 0
ReportsStrayComma text words n found = found ≡ option_and_then (comma_after text) (slice_get words n)
