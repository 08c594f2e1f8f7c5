-- The note on an error of a Bison file: what was found, or which name is probably meant.
use Rattle.std.specs.Prelude.{ℕ, Bool, true, false, ◌==◌, ◌&&◌, ◌||◌, nat_le, List, [], ◌∷◌, ◌++◌, codes, drop, length, map, slice_range, take, Option, Some, None, if◌then◌else◌, option_map, unwrap_or}
use Rattle.std.specs.Char.{is_ascii_alphabetic}
use Rattle.std.specs.List.{starts_with}
use Rattle.std.specs.Option.{option_map_or}
use Rattle.cfgrammar.specs.BisonError.{Error}
use Rattle.cfgrammar.specs.BisonErrorKind.{ErrorKind}
use Rattle.cfgrammar.specs.BisonErrorKind.TheVariants.{InvalidStart, Unexpected, UnknownSymbol, Word}
use Rattle.cfgrammar.specs.BisonErrorSpans.{spans_of, spanskind_of}
use Rattle.cfgrammar.specs.BisonErrorTexts.{error_text}
use Rattle.cfgrammar.specs.BisonErrorWords.{error_word}
use Rattle.cfgrammar.specs.BisonExpected.{Expected}
use Rattle.cfgrammar.specs.BisonExpected.TheVariants.{Rule}
use Rattle.cfgrammar.specs.BisonWordFaultKind.{WordFaultKind}
use Rattle.cfgrammar.specs.BisonWordFaultKind.TheVariants.{EmptyLiteral, IllegalCharacters, IllegalEscape, IllegalIdentifier, IllegalInteger, IllegalName, IncompleteCode, IncompleteComment, IncompleteLiteral, IncompleteName, IncompletePrologue, IncompleteString, IncompleteTag, LongLiteral, UnknownDirective}
use Rattle.cfgrammar.specs.Pieces.{starts}
use Rattle.cfglint.specs.ReportedErrors.{NotedError}
use Rattle.cfglint.specs.Suggestions.{Names, most_suggestions, no_names, question_of}

-- the directives that may be meant
abbrev pub directive_names : List (List ℕ)
directive_names = codes "%token" ∷ codes "%nterm" ∷ codes "%type" ∷ codes "%left" ∷ codes "%right" ∷ codes "%nonassoc" ∷
    codes "%precedence" ∷ codes "%start" ∷ codes "%union" ∷ codes "%code" ∷ codes "%destructor" ∷ codes "%printer" ∷
    codes "%expect" ∷ codes "%expect-rr" ∷ codes "%define" ∷ codes "%require" ∷ codes "%prec" ∷ codes "%empty" ∷ codes "%dprec" ∷
    codes "%merge" ∷ codes "%param" ∷ codes "%parse-param" ∷ codes "%lex-param" ∷ codes "%initial-action" ∷ codes "%locations" ∷
    codes "%debug" ∷ codes "%verbose" ∷ codes "%skeleton" ∷ codes "%language" ∷ codes "%output" ∷ codes "%header" ∷
    codes "%defines" ∷ codes "%name-prefix" ∷ codes "%file-prefix" ∷ codes "%no-lines" ∷ codes "%token-table" ∷
    codes "%default-prec" ∷ codes "%no-default-prec" ∷ codes "%glr-parser" ∷ codes "%pure-parser" ∷ codes "%error-verbose" ∷
    codes "%yacc" ∷ []

-- what the end of a text is called, and words that may be long
abbrev pub begins_with : List ℕ → List ℕ → Bool
begins_with start word = starts_with (λ a b. a == b) word start

abbrev pub long_word : List ℕ → Option (List ℕ)
long_word word =
    if length word == 0 then Some (codes "the end of the file")
    else if begins_with (codes "{") word then Some (codes "code in braces")
    else if begins_with (codes "%{") word then Some (codes "a prologue")
    else if begins_with (codes "%?") word then Some (codes "a predicate")
    else None

-- that this was found; and the note on a symbol that is neither a token nor a rule
abbrev pub found_note : List ℕ → List ℕ
found_note word = codes "found " ++ unwrap_or (long_word word) (codes "'" ++ (word ++ codes "'"))

-- of a name where a rule has to be it says that no colon follows: code may be there too
abbrev pub begins_as_name : List ℕ → Bool
begins_as_name word = starts (λ b. is_ascii_alphabetic b || (b == 95 || b == 46)) word

abbrev pub unexpected_note : Expected → List ℕ → List ℕ
unexpected_note Rule word = if begins_as_name word then codes "found '" ++ (word ++ codes "', and no ':' after it: '%%' comes before code") else found_note word
unexpected_note _ word = found_note word

abbrev pub symbol_note : Names → List ℕ → List ℕ
symbol_note names name = unwrap_or (question_of names.symbols name) (codes "if it is a token, declare it by %token")

-- what would end a word that has no end
abbrev pub closing : WordFaultKind → Option (List ℕ)
closing IncompleteComment = Some (codes "'*/'")
closing IncompleteLiteral = Some (codes "quote")
closing IncompleteString = Some (codes "quote")
closing IncompleteTag = Some (codes "'>'")
closing IncompleteName = Some (codes "']'")
closing IncompleteCode = Some (codes "'}'")
closing IncompletePrologue = Some (codes "'%}'")
closing _ = None

abbrev pub closing_note : List ℕ → List ℕ
closing_note end = codes "no " ++ (end ++ codes " closes it")

abbrev pub begins_with_mark : List ℕ → Bool
begins_with_mark word = begins_with (239 ∷ 187 ∷ 191 ∷ []) word

-- whether a word begins with a typographic quote: from U+2018 up to U+201F
abbrev pub begins_with_quote : List ℕ → Bool
begins_with_quote (first ∷ (second ∷ (third ∷ rest))) = first == 226 && (second == 128 && (nat_le 152 third && nat_le third 159))
begins_with_quote _ = false

-- what to say of characters that begin no word
unfoldable pub character_advice : List ℕ → List ℕ
character_advice word =
    if begins_with (codes "#") word then codes ": comments begin with '//' or '/*'"
    else if begins_with (codes ":") word then codes ": one ':' is between a rule's name and its productions"
    else if begins_with_quote word then codes ": quotes are ' and \""
    else codes ": a token is in quotes, and productions have no operators"

abbrev pub characters_note : List ℕ → List ℕ
characters_note word =
    if begins_with_mark word then codes "a byte order mark: save the file without one"
    else codes "found '" ++ (word ++ (codes "'" ++ character_advice word))

-- what to say of a fault after the word with it
abbrev pub fault_advice : WordFaultKind → Option (List ℕ)
fault_advice IllegalEscape = Some (codes ": escapes are those of C, and '\\\\' is a backslash")
fault_advice IllegalIdentifier = Some (codes ": a name begins with no digit, and a string is in double quotes")
fault_advice IllegalInteger = Some (codes ": the greatest number is 2147483647")
fault_advice _ = None

abbrev pub word_note : WordFaultKind → List ℕ → Option (List ℕ)
word_note UnknownDirective word = question_of directive_names word
word_note IllegalCharacters word = Some (characters_note word)
word_note EmptyLiteral word = Some (codes "one character is between the quotes, and %empty is for a production without symbols")
word_note LongLiteral word = Some (codes "several characters are in double quotes")
word_note IllegalName word = Some (codes "brackets have one name")
word_note fault word = option_map (λ advice. codes "found '" ++ (word ++ (codes "'" ++ advice))) (fault_advice fault)

-- the note on a fault in a word, and on an error of this kind whose span has this text
abbrev pub fault_note : WordFaultKind → List ℕ → Option (List ℕ)
fault_note fault word = option_map_or (λ end. Some (closing_note end)) (closing fault) (word_note fault word)

abbrev pub note_at : Names → ErrorKind → List ℕ → Option (List ℕ)
note_at names (Unexpected expected) word = Some (unexpected_note expected word)
note_at names (Word fault) word = fault_note fault word
note_at names UnknownSymbol word = Some (symbol_note names word)
note_at names InvalidStart word = question_of names.symbols word
note_at names _ word = None

abbrev pub bison_note : List ℕ → Names → Error → Option (List ℕ)
bison_note text names error = note_at names error.kind (slice_range text error.span.start error.span.end)

-- whether the span of an error of this kind is the name of a symbol that the file doesn't have
abbrev pub has_symbols_of : ErrorKind → Bool
has_symbols_of UnknownSymbol = true
has_symbols_of InvalidStart = true
has_symbols_of _ = false

-- an error with this note
abbrev pub bison_noted_as : Error → Option (List ℕ) → NotedError
bison_noted_as error hint = record {
  text = error_text error.kind;
  word = error_word error.kind;
  spans = spans_of error;
  spanskind = spanskind_of error.kind;
  hint = hint;
  note_index = 0;
  has_symbols = has_symbols_of error.kind;
}

abbrev pub noted_bison : List ℕ → Names → Error → NotedError
noted_bison text names error = bison_noted_as error (bison_note text names error)

-- Errors, each with its note. Only the first of them are compared with the names of the file, so that many errors don't take long.
abbrev pub noted_bison_errors : List ℕ → Names → List Error → List NotedError
noted_bison_errors text names all =
    map (noted_bison text names) (take most_suggestions all) ++ map (noted_bison text no_names) (drop most_suggestions all)
