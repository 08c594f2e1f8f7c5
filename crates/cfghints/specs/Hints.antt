-- The note on an error: what was found where the error is, and what may be there.
use Rattle.std.specs.Prelude.{ℕ, Bool, true, false, ◌==◌, ◌&&◌, ◌||◌, nat_le, not, if◌then◌else◌, List, [], ◌∷◌, ◌++◌, length, take, drop, slice_get, Option, Some, None, is_some, option_map, codes}
use Rattle.std.specs.List.{find, prefix_len}
use Rattle.std.specs.Option.{option_map_or}
use Rattle.std.specs.Str.{bytes_eq}
use Rattle.cfgbase.specs.declared.span.Span.{Span}
use Rattle.cfglines.specs.Characters.{begins_character}
use Rattle.cfgrender.specs.Render.{is_offset}
use Rattle.constructs.specs.Pieces.{run, split_first, starts, strip}
use Rattle.cfgwords.specs.declared.bytes.ByteClass.TheVariants as bytes
use Rattle.cfgwords.specs.Bytes.{holds}
use Rattle.cfgerrors.specs.HeaderErrors.{ShownErrorKind, ExpectedToken, InvalidEntry, MissingGrmtoolsSection}
use Rattle.cfgerrors.specs.HeaderErrors as section
use Rattle.cfgerrors.specs.Errors.{ErrorKind, GrammarError, UnknownDeclaration, IllegalString, ProductionNotTerminated, MissingColon, MissingRightArrow, IllegalName, IllegalInteger, UnknownSymbol, Header, IncompleteAction, IncompleteComment, IncompleteRule, PrematureEnd, NoStartRule, ReachedEOL, InvalidString}

-- whether a byte belongs to the piece that begins with the first byte: to a `%` and the letters, digits, `-`, `_` and `%` after it, to a
-- name, to a number, or to one character
abbrev pub continues : ℕ → ℕ → Bool
continues first byte =
    if first == 37 then holds bytes.IdentifierByte byte || byte == 45 || byte == 37
    else if holds bytes.NameStart first then holds bytes.NameByte byte
    else if holds bytes.Digit first then holds bytes.Digit byte
    else not (begins_character byte)

-- what a text begins with: a piece of it, in quotes, or its end
abbrev pub found : List ℕ → List ℕ
found [] = codes "the end of the file"
found (first ∷ rest) = if holds bytes.LineEnd first
    then codes "the end of the line"
    else codes "'" ++ ((first ∷ take (prefix_len (continues first) rest) rest) ++ codes "'")

-- that this was found, and what that means
abbrev pub found_note : List ℕ → List ℕ → List ℕ
found_note text advice = codes "found " ++ (found text ++ advice)

abbrev pub begins_with : List ℕ → List ℕ → Bool
begins_with word text = is_some (strip word text)

-- whether a text begins with a `%` and a letter
abbrev pub begins_keyword : List ℕ → Bool
begins_keyword text = option_map_or (λ rest. starts (holds bytes.Letter) rest) (strip (codes "%") text) false

-- what follows the name of a declaration that isn't read
abbrev pub unread : List ℕ
unread = codes " isn't read here: the declarations are %token, %start, %left, %right, %nonassoc, %epp, "
    ++ (codes "%expect, %expect-rr, %expect-unused, %avoid_insert, %parse-param and %parse-generics; "
    ++ codes "%actiontype in the original kinds and %implicit_tokens in Eco")

abbrev pub first_byte : List ℕ → ℕ
first_byte [] = 0
first_byte (first ∷ rest) = first

-- whether a text has a `%parse-param`: without a `:` after its name it goes on to one in the rules
abbrev pub has_parameter : List ℕ → Bool
has_parameter text = is_some (split_first (codes "%parse-param") text)

-- what to say where neither a declaration nor `%%` was found, between these texts
unfoldable pub declaration_advice : List ℕ → List ℕ → List ℕ
declaration_advice before text =
    if first_byte text == 35 then codes ", expected a declaration or '%%': comments begin with '//'"
    else if has_parameter before then codes ", expected a declaration or '%%': a %parse-param without ':' goes on to the next ':'"
    else codes ", expected a declaration or '%%'"

-- where a section has to be
abbrev pub section_place : List ℕ
section_place = codes "a section %grmtools{..} is at the start of the file, before any comment"

-- the note where neither a declaration nor `%%` was found, between these texts
unfoldable pub declaration_note : List ℕ → List ℕ → List ℕ
declaration_note before text =
    if length before == 0 && begins_with (239 ∷ 187 ∷ 191 ∷ []) text then codes "the file begins with a byte order mark: save it without one"
    else if begins_with (codes "%{") text then codes "code between %{ and %} isn't read: leave it out of the grammar"
    else if begins_with (codes "%grmtools") text then section_place
    else if begins_keyword text then found text ++ unread
    else found_note text (declaration_advice before text)

-- the note where the file ends before `%%`, after this text
unfoldable pub ending_note : List ℕ → List ℕ
ending_note before =
    if has_parameter before then codes "'%%' comes before the rules: a %parse-param without ':' goes on to the next ':'"
    else codes "'%%' comes before the rules"

-- the note where a line ends too soon after this text
unfoldable pub line_note : List ℕ → List ℕ
line_note before =
    if has_parameter before then codes "what a declaration needs is in one line with its keyword: a %parse-param without ':' goes on to the next ':'"
    else codes "what a declaration needs is in one line with its keyword"

-- the same, or where the file ends too soon: only what ends at a `:` is read up to there
abbrev pub reach_note : List ℕ → List ℕ → List ℕ
reach_note before [] = found_note [] (codes ", expected ':' after the type of a rule or the name of a %parse-param")
reach_note before (byte ∷ text) = line_note before

-- whether a byte is `?`, `*`, `+`, or a parenthesis
abbrev pub is_operator : ℕ → Bool
is_operator byte = byte == 63 || (byte == 42 || (byte == 43 || (byte == 40 || byte == 41)))

-- what to say where no token was found, by the first byte there
unfoldable pub byte_advice : ℕ → List ℕ
byte_advice first =
    if first == 35 then codes ", expected a name or a quoted text: comments begin with '//'"
    else if first == 61 then codes ", expected a name or a quoted text: a rule's name has ':' after it, and an action is in braces"
    else if is_operator first then codes ", expected a name or a quoted text: a token is in quotes, and productions have no operators"
    else if first == 60 then codes ": tags such as <value> aren't read"
    else if holds bytes.Digit first then codes ", expected a name or a quoted text: numbers of tokens aren't read"
    else if first == 58 then codes ": a ';' may be missing before this rule, or '%%' before the first one"
    else if holds bytes.Quote first then codes ", which no quote closes on this line: one may be missing, or one too many, since a quoted text isn't empty and has no escapes"
    else if first == 37 then codes ", expected a name or a quoted text: a ';' or the end of a line may be missing before it, and in a rule only %prec and %empty are read"
    else if first == 46 then codes ", expected a name without dots or a quoted text"
    else codes ", expected a name or a quoted text"

-- whether a byte belongs to no piece of a production without quotes: a blank, a quote, `|`, `;` or `:`
abbrev pub ends_piece : ℕ → Bool
ends_piece byte = holds bytes.Blank byte || holds bytes.Quote byte || byte == 124 || byte == 59 || byte == 58

abbrev pub is_quote : Option ℕ → Bool
is_quote byte = option_map_or (holds bytes.Quote) byte false

-- whether a text begins with bytes that are no quotes, and a quote follows them directly: it closes nothing, as that of `]'`
abbrev pub quote_follows : List ℕ → Bool
quote_follows [] = false
quote_follows (first ∷ rest) = not (ends_piece first) && is_quote (find ends_piece rest)

-- whether a text begins nearly as `%prec`, or as `%empty`
abbrev pub is_nearly_prec : List ℕ → Bool
is_nearly_prec text = not (begins_with (codes "%prec") text) && (begins_with (codes "%pr") text || begins_with (codes "%pe") text)

abbrev pub is_nearly_empty : List ℕ → Bool
is_nearly_empty text = not (begins_with (codes "%empty") text) && begins_with (codes "%em") text

-- whether a text begins with a typographic quote: from U+2018 up to U+201F
abbrev pub begins_with_quote : List ℕ → Bool
begins_with_quote (first ∷ (second ∷ (third ∷ rest))) = first == 226 && (second == 128 && (nat_le 152 third && nat_le third 159))
begins_with_quote _ = false

-- what to say where no token was found, where the text goes on like this: after `::=`, and at the type of a rule before which no `;` is
unfoldable pub token_advice : List ℕ → List ℕ
token_advice text =
    if begins_with (codes ":=") text then codes ": only one ':' is between a rule's name and its productions"
    else if begins_with (codes "->") text then codes ": a ';' may be missing before this rule"
    else if quote_follows text then codes ", expected a name or a quoted text: a quote may be missing before it, or be one too many, as in ''"
    else if begins_with_quote text then codes ", expected a name or a quoted text: quotes are ' and \""
    else if is_nearly_prec text then codes ", expected a name or a quoted text: did you mean '%prec'?"
    else if is_nearly_empty text then codes ", expected a name or a quoted text: did you mean '%empty'?"
    else byte_advice (first_byte text)

-- whether a text has `%%`, then `->`, and then `%%` again: if the rules go on after it, that is in the type of a rule
abbrev pub has_parts : List (List ℕ) → List ℕ → Bool
has_parts [] text = true
has_parts (word ∷ words) text = option_map_or (λ parts. has_parts words parts.1) (split_first word text) false

abbrev pub is_past_end : List ℕ → Bool
is_past_end before = has_parts (codes "%%" ∷ codes "->" ∷ codes "%%" ∷ []) before

-- what to say where no token was found, between these texts
unfoldable pub symbol_advice : List ℕ → List ℕ → List ℕ
symbol_advice before text =
    if is_past_end before then codes ", expected a name or a quoted text: the type of a rule goes on to the next ':', and may have a '%%'"
    else token_advice text

-- whether a text begins as names do: after one name that is code, as in `fn main`
abbrev pub begins_name : List ℕ → Bool
begins_name text = starts (holds bytes.NameStart) text

-- what to say where no colon was found: a type is there only in files of the kind Grmtools
unfoldable pub colon_advice : List ℕ → List ℕ
colon_advice text =
    if begins_with (codes "->") text then codes ": rules have types only in files of the kind Grmtools, as %grmtools{yacckind: Grmtools} says"
    else if begins_name text then codes ", expected ':', or '%%' before code"
    else codes ", expected ':'"

-- what follows a name and the blanks after it
abbrev pub after_name : List ℕ → List ℕ
after_name text = (run (holds bytes.Blank) (run (holds bytes.NameByte) text).1).1

-- whether a text begins with the head of a rule: a name, and `:` or `->` after it
abbrev pub begins_rule : List ℕ → Bool
begins_rule text = begins_name text && (begins_with (codes ":") (after_name text) || begins_with (codes "->") (after_name text))

-- what to say where a production goes on after its action: most often it is at its end, and the `;` after it is missing
unfoldable pub production_advice : List ℕ → List ℕ
production_advice text =
    if begins_rule text then codes ": a ';' may be missing before this rule"
    else if begins_with (codes "%%") text then codes ": a ';' may be missing before it"
    else codes ", expected '|' or ';': an action may only be at the end of a production, and a '}' ends it also in a string or a comment"

-- what to say where the type of a rule is missing
unfoldable pub arrow_advice : List ℕ → List ℕ
arrow_advice text =
    if first_byte text == 58 then codes ", expected '->' and the type of the rule's value: only files of the kind Grmtools have types"
    else if begins_name text then codes ", expected '->' and the type of the rule's value, or '%%' before code"
    else codes ", expected '->' and the type of the rule's value"

-- what to say where no name of a rule is
unfoldable pub name_advice : List ℕ → List ℕ
name_advice text =
    if first_byte text == 35 then codes ", expected the name of a rule: comments begin with '//', and '%%' comes before code"
    else codes ", expected the name of a rule"

-- what to say where no name is in a section
unfoldable pub key_advice : List ℕ → List ℕ
key_advice text =
    if first_byte text == 37 then codes ", expected a name: a '}' may be missing before it"
    else if first_byte text == 34 then codes ", which no quote closes"
    else codes ", expected a name"

-- what to say where this character is missing in a section
unfoldable pub character_advice : ℕ → List ℕ
character_advice character = if character == 125 then codes ", expected '}', or ',' and another key" else []

-- which kind may be meant where a value that begins with this byte names none
unfoldable pub kind_advice : ℕ → List ℕ
kind_advice first =
    if first == 71 || first == 103
    then codes ", expected a kind, without quotes: did you mean Grmtools? The others are Eco, Original(NoAction), Original(UserAction) and Original(GenericParseTree)"
    else if first == 69 || first == 101
    then codes ", expected a kind, without quotes: did you mean Eco? The others are Grmtools, Original(NoAction), Original(UserAction) and Original(GenericParseTree)"
    else codes ", expected a kind, without quotes: Grmtools, Eco, Original(NoAction), Original(UserAction) or Original(GenericParseTree)"

-- the note on the value of a section's key `yacckind`, or at its start, where the section has no such key
unfoldable pub kind_note : List ℕ → List ℕ → List ℕ
kind_note before text =
    if length before == 0 then codes "the section has no key yacckind, and so names no kind"
    else found_note text (kind_advice (first_byte text))

-- The note on an error of this kind in a section, between these texts. After the whole span there is what was found in place of a character.
abbrev pub section_note : ShownErrorKind → List ℕ → List ℕ → Option (List ℕ) → Option (List ℕ)
section_note (InvalidEntry what) before text after = if bytes_eq what (codes "yacckind") then Some (kind_note before text) else None
section_note MissingGrmtoolsSection before text after = Some section_place
section_note section.IllegalName before text after = Some (found_note text (key_advice text))
section_note (ExpectedToken character) before text after = option_map (λ rest. found_note rest (character_advice character)) after
section_note _ before text after = None

-- the note on an error of this kind, if it doesn't depend on the text
abbrev pub plain_note : ErrorKind → Option (List ℕ)
plain_note IncompleteAction = Some (codes "no '}' closes it: each '{' in it needs one, also in a string or a comment")
plain_note IncompleteComment = Some (codes "no '*/' closes it")
plain_note IncompleteRule = Some (codes "a ';' ends a rule")
plain_note NoStartRule = Some (codes "the file has no rules")
plain_note InvalidString = Some (codes "a quoted text ends on its line, and has a '\\' only before a quote")
plain_note _ = None

-- the note on an error of this kind between these texts, and with this text after its span
abbrev pub note : ErrorKind → List ℕ → List ℕ → Option (List ℕ) → Option (List ℕ)
note UnknownDeclaration before text after = Some (declaration_note before text)
note IllegalString before text after = Some (found_note text (symbol_advice before text))
note ProductionNotTerminated before text after = Some (found_note text (production_advice text))
note MissingColon before text after = Some (found_note text (colon_advice text))
note MissingRightArrow before text after = Some (found_note text (arrow_advice text))
note IllegalName before text after = Some (found_note text (name_advice text))
note IllegalInteger before text after = Some (found_note text (codes ", expected a number up to 18446744073709551615"))
note UnknownSymbol before text after = Some (found_note text (codes ", expected a name or a quoted text"))
note PrematureEnd before text after = Some (ending_note before)
note ReachedEOL before text after = Some (reach_note before text)
note (Header kind spanskind) before text after = section_note kind before text after
note kind before text after = plain_note kind

-- the text after a span that ends at a character boundary
abbrev pub after : List ℕ → Span → Option (List ℕ)
after text span = if is_offset text span.end then Some (drop span.end text) else None

-- the note on an error of this kind with this first span
abbrev pub hint_at : List ℕ → ErrorKind → Option Span → Option (List ℕ)
hint_at text kind None = None
hint_at text kind (Some span) = if is_offset text span.start
    then note kind (take span.start text) (drop span.start text) (after text span)
    else None

-- the note on an error in a text
abbrev pub hint_text : List ℕ → GrammarError → Option (List ℕ)
hint_text text error = hint_at text error.kind (slice_get error.spans 0)
