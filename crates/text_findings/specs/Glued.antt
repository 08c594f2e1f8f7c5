-- Names that directly follow the keyword of their declaration: `%tokens X` is read as `%token s X`.
use Rattle.std.specs.Prelude.{◌≡◌, ℕ, Bool, false, ◌==◌, ◌||◌, List, [], ◌∷◌, ◌++◌, codes, slice_get, take, Option, None, Some, option_map, if◌then◌else◌}
use Rattle.std.specs.List.{ends_with}
use Rattle.std.specs.Option.{option_and_then, option_map_or}
use Rattle.cfgrammar.specs.FileWords.{Word}
use Rattle.cfgrammar.specs.Syntax.{Syntax}
use Rattle.finding_kinds.specs.declared.finding_kind.FindingKind.TheVariants.{GluedKeyword}
use Rattle.text_findings.specs.Finding.{ShownFinding}
use Rattle.text_findings.specs.Words.{word_at}
use Rattle.text_findings.specs.declared.words.Words.{Words}

-- whether a text ends with a word
abbrev pub ends_in : List ℕ → List ℕ → Bool
ends_in word text = ends_with (λ a b. a == b) text word

-- the keyword of a list of names with which a text ends, if it ends with one
unfoldable pub keyword_at_end : List ℕ → Option (List ℕ)
keyword_at_end text =
    if ends_in (codes "%token") text then Some (codes "%token")
    else if ends_in (codes "%left") text then Some (codes "%left")
    else if ends_in (codes "%right") text then Some (codes "%right")
    else if ends_in (codes "%nonassoc") text then Some (codes "%nonassoc")
    else if ends_in (codes "%avoid_insert") text then Some (codes "%avoid_insert")
    else if ends_in (codes "%implicit_tokens") text then Some (codes "%implicit_tokens")
    else None

-- the keyword that ends at this offset of the text
abbrev pub keyword_before : List ℕ → ℕ → Option (List ℕ)
keyword_before text offset = keyword_at_end (take offset text)

-- that the word and the keyword look like one
abbrev pub glued_finding : Word → List ℕ → ShownFinding
glued_finding word keyword = record {
  kind = GluedKeyword;
  spans = word.span ∷ [];
  text = codes "'" ++ (keyword ++ (word.name ++ (codes "' is read as '" ++ (keyword ++ (codes " " ++ (word.name ++ codes "'"))))));
  hint = None;
}

-- whether the text has a quote at this offset
abbrev pub is_quote : ℕ → Bool
is_quote byte = byte == 34 || byte == 39

abbrev pub has_quote : List ℕ → ℕ → Bool
has_quote text offset = option_map_or is_quote (slice_get text offset) false

-- The finding about a word of the text, if the keyword of a declaration ends where the word begins. A name doesn't begin right after another
-- one, so the word is then the first one of that declaration. One in quotes begins after its quote, or with it in a Bison file: a quote
-- parts it from the keyword.
abbrev pub glued : List ℕ → Word → Option ShownFinding
glued text word = if has_quote text word.span.start then None else option_map (glued_finding word) (keyword_before text word.span.start)

-- the n-th word of a list directly follows the keyword of its declaration
abbrev pub ReportsGlued : List ℕ → Syntax → Words → ℕ → Option ShownFinding → Type 0
ReportsGlued text s words n found = found ≡ option_and_then (glued text) (word_at words s n)
