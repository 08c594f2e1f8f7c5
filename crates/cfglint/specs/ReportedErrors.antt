-- Errors as they are reported, whatever the files that they are in.
use Rattle.std.specs.Prelude.{ℕ, ◌-◌, Bool, true, List, [], ◌++◌, codes, drop, length, map, slice_get, take, Option, Some, None}
use Rattle.std.specs.List.{flat_map}
use Rattle.std.specs.Option.{option_map_or, option_or}
use Rattle.cfgrammar.specs.ColumnUnit.{ColumnUnit}
use Rattle.cfgrammar.specs.Errors.{ErrorKind, GrammarError, IncompleteRule, spanskind_of}
use Rattle.cfgrammar.specs.ErrorTexts.{error_text}
use Rattle.cfgrammar.specs.Hints.{hint_text}
use Rattle.cfgrammar.specs.Render.{note_line}
use Rattle.cfgrammar.specs.Span.{Span}
use Rattle.cfgrammar.specs.SpansKind.{SpansKind}
use Rattle.cfgjson.specs.Objects.{ShownDiagnostic}
use Rattle.cfglint.specs.ErrorWords.{error_word, has_symbols_of}
use Rattle.cfglint.specs.Severities.{printed}
use Rattle.cfglint.specs.Suggestions.{Names, most_suggestions, no_names, suggestion}

-- an error as it is reported: what it says, the word of its kind, where it is, which of these spans are shown, the note on it, if there is one, the
-- index of the span where that is, and whether the spans are names of symbols
pub record NotedError : Type 0 where
  pub text : List ℕ
  pub word : List ℕ
  pub spans : List Span
  pub spanskind : SpansKind
  pub hint : Option (List ℕ)
  pub note_index : ℕ
  pub has_symbols : Bool

-- the message: with its note, if there is one, since few programs show the line of a note, and with the word of its kind
abbrev pub said_note : Option (List ℕ) → List ℕ → List ℕ
said_note None rest = rest
said_note (Some words) rest = codes ": " ++ (words ++ rest)

abbrev pub error_message : NotedError → List ℕ
error_message shown = shown.text ++ said_note shown.hint (codes " [" ++ (shown.word ++ codes "]"))

-- the offset of the note on an error, in bytes: the start of that span
abbrev pub note_offset : NotedError → ℕ
note_offset shown = option_map_or (λ (span : Span). span.start) (slice_get shown.spans shown.note_index) 0

-- the line of the note
abbrev pub hint_line : ColumnUnit → List ℕ → List ℕ → NotedError → List ℕ
hint_line unit name text shown = option_map_or (λ words. note_line unit name text words (note_offset shown)) shown.hint []

-- the lines for errors in a text with this name, with columns in this unit, and with colours or not
abbrev pub error_lines : ColumnUnit → Bool → List ℕ → List ℕ → List NotedError → List ℕ
error_lines unit colors name text all = flat_map (λ (shown : NotedError).
    printed unit colors name text true (error_message shown) shown.spans shown.spanskind ++ hint_line unit name text shown) all

-- an error, as programs read it
abbrev pub shown_error : NotedError → ShownDiagnostic
shown_error shown = record {
  is_error = true;
  kind = shown.word;
  text = shown.text;
  hint = shown.hint;
  spans = shown.spans;
  has_symbols = shown.has_symbols;
}

-- the span where the note on an error is: of a rule that the end of the text cuts the last one, its name, if that is known
abbrev pub note_index_of : ErrorKind → List Span → ℕ
note_index_of IncompleteRule spans = length spans - 1
note_index_of kind spans = 0

abbrev pub note_index : GrammarError → ℕ
note_index error = note_index_of error.kind error.spans

-- an error of a file of one of the library's kinds, with this note
abbrev pub noted_as : GrammarError → Option (List ℕ) → NotedError
noted_as error hint = record {
  text = error_text error.kind;
  word = error_word error.kind;
  spans = error.spans;
  spanskind = spanskind_of error.kind;
  hint = hint;
  note_index = note_index error;
  has_symbols = has_symbols_of error.kind;
}

-- the note on such an error, in a text with these names
abbrev pub note_on : List ℕ → Names → GrammarError → Option (List ℕ)
note_on text names error = option_or (hint_text text error) (suggestion names error.kind)

abbrev pub noted : List ℕ → Names → GrammarError → NotedError
noted text names error = noted_as error (note_on text names error)

-- Such errors, each with its note. Only the first of them get names suggested, so that many errors don't take long.
abbrev pub noted_errors : List ℕ → Names → List GrammarError → List NotedError
noted_errors text names all =
    map (noted text names) (take most_suggestions all) ++ map (noted text no_names) (drop most_suggestions all)
