-- The grammar of a section, construct by construct. `do` is sequence. `Says` of a construct is its meaning; the entries are what counts as
-- read.
use Rattle.std.specs.Prelude.{ℕ, zero, suc, ◌+◌, Bool, true, false, List, [], ◌∷◌, Some, None, ◌==◌, not, codes, if◌then◌else◌}
use Rattle.cfgbase.specs.declared.span.Span.{Span}
use Rattle.constructs.specs.Pieces.{starts, run}
use Rattle.constructs.specs.Leaves.{One, OneOrEnd, Less, NoMore}
use Rattle.constructs.specs.Construct.{Construct, ◌>>=◌, ◌>>◌, case_of, choice, here, again, goes_on, ends, many, repeat, while_test, word_or, gives, emits, fails, expect}
use Rattle.cfgwords.specs.declared.bytes.ByteClass.TheVariants as bytes
use Rattle.cfgwords.specs.Bytes.{holds}
use Rattle.cfgwords.specs.Text.{offset_of, span_of}
use Rattle.cfgwords.specs.FileWords.{integer_at}
use Rattle.cfgwords.specs.SectionWords.{ascii_characters, wide_characters, name_at, text_at}
use Rattle.cfgerrors.specs.HeaderErrors.{ShownErrorKind, MissingGrmtoolsSection, IllegalName, ExpectedToken, UnexpectedToken, InvalidEntry, ShownError}
use Rattle.cfgkinds.specs.Values.{Located, ShownNamespaced, ShownSetting, Unitary, Constructor, Number, Text, Array, settings_of, ShownValue, Flag, Given}
use Rattle.cfgsection.specs.SectionWordKinds.{name_kind, text_kind, integer_kind}

-- an entry of a section: its key in lower case, the key's span, and its value
pub record Entry : Type 0 where
  pub key : List ℕ
  pub key_span : Span
  pub value : ShownValue Span

abbrev pub Fault : Type 0
Fault = ShownError Span

-- a construct that leaves a shorter rest, as each turn of a repetition must
abbrev pub Strict : Type 0 → Type 1
Strict A = Construct Entry Fault Less (One A)

-- a construct that may leave the whole text
abbrev pub Lax : Type 0 → Type 1
Lax A = Construct Entry Fault NoMore (One A)

-- a turn of a repetition: a value, or the end
abbrev pub Turn : Type 0 → Type 1
Turn A = Construct Entry Fault Less (OneOrEnd A)

-- the text begins with this byte
abbrev pub begins : ℕ → List ℕ → Bool
begins byte text = starts (λ b. b == byte) text

-- the text is not at its end, and doesn't begin with this byte
abbrev pub goes_on_before : ℕ → List ℕ → Bool
goes_on_before byte text = starts (λ b. not (b == byte)) text

-- how many brackets may be open at once
abbrev pub most_brackets : ℕ
most_brackets = 127

abbrev pub glob_hint : List ℕ
glob_hint = codes "perhaps this is a glob, in which case it requires string quoting."

abbrev pub error_over : ShownErrorKind → ℕ → ℕ → Fault
error_over kind start end = record { kind = kind; locations = record { start = start; end = end } ∷ [] }

-- a fault right where the text is left
abbrev pub fault_at : ℕ → ShownErrorKind → List ℕ → Fault
fault_at len kind text = error_over kind (offset_of len text) (offset_of len text)

-- the span from one offset to a later one
abbrev pub between : ℕ → List ℕ → List ℕ → Span
between len text rest = record { start = offset_of len text; end = offset_of len rest }

-- the span of one byte
abbrev pub byte_at : ℕ → Span
byte_at start = record { start = start; end = start + 1 }

-- a star instead of something else
abbrev pub unexpected_star : ShownErrorKind
unexpected_star = UnexpectedToken 42 glob_hint

-- the fault if there is no name
abbrev pub name_fault : ℕ → List ℕ → Fault
name_fault len text = fault_at len (if begins 42 text then unexpected_star else IllegalName) text

-- over the digits of a number that is too large
abbrev pub number_fault : ℕ → List ℕ → Fault
number_fault len text = record { kind = InvalidEntry (codes "number"); locations = span_of (offset_of len text) (run (holds bytes.Digit) text).0 ∷ [] }

-- over a bracket that may not open
abbrev pub nesting_fault : Span → Fault
nesting_fault opens = record { kind = InvalidEntry (codes "nesting"); locations = opens ∷ [] }

-- the fault if there is no comma or `}` in a section whose `{` is at opening
abbrev pub end_fault : ℕ → ℕ → List ℕ → Fault
end_fault len opening text =
    if begins 42 text then record { kind = unexpected_star; locations = byte_at (offset_of len text) ∷ [] }
    else error_over (ExpectedToken 125) opening (offset_of len text)

-- one of these characters if the text begins with one, or else what c says
abbrev pub one_of : List (ℕ × List ℕ) → Turn (Unit {0}) → Turn (Unit {0})
one_of [] c = c
one_of ((first, others) ∷ characters) c = case_of (first ∷ others) (again tt) (one_of characters c)

unfoldable pub wide_character : Turn (Unit {0})
wide_character = one_of wide_characters ends

unfoldable pub white_character : Turn (Unit {0})
white_character = one_of ascii_characters wide_character

unfoldable pub separator : Turn (Unit {0})
separator = case_of (codes ",") (again tt) white_character

unfoldable pub white : Lax (Unit {0})
white = repeat white_character

-- white space and commas, in any order
unfoldable pub separators : Lax (Unit {0})
separators = repeat separator

-- whether there is a comma here, and the white space after it
unfoldable pub comma : Lax Bool
comma = case_of (codes ",") (do
  white
  gives true)
    (gives false)

-- len is the whole text's length
module _ (len : ℕ) where
  unfoldable pub name : Strict (Located Span)
  name = word_or name_kind (name_at len) gives (fails (name_fault len))

  -- `name` or `name :: name`, and the white space after it
  unfoldable pub namespaced : Strict (ShownNamespaced Span)
  namespaced = do
    first ← name
    white
    case_of (codes "::") (do
      white
      member ← name
      white
      gives (record { namespace = Some first; member = member }))
        (gives (record { namespace = None; member = first }))

  -- such a name, and the `)` after it
  unfoldable pub argument : Strict (ShownNamespaced Span)
  argument = do
    name ← namespaced
    expect (codes ")") (fault_at len (ExpectedToken 41))
    gives name

  -- a name, or two of them as `a(b)`
  unfoldable pub applied : Strict (ShownSetting Span)
  applied = do
    constructor ← namespaced
    case_of (codes "(") (do
      applied_to ← argument
      gives (Constructor constructor applied_to))
        (gives (Unitary constructor))

  unfoldable pub number : Strict (ShownSetting Span)
  number = word_or integer_kind (integer_at len) (λ number. gives (Number number.0 number.1)) (fails (number_fault len))

  -- a setting of an array, and what is between it and the next one
  unfoldable pub element : Strict (ShownSetting Span) → Strict (ShownSetting Span)
  element setting = do
    value ← setting
    separators
    gives value

  unfoldable pub elements : Strict (ShownSetting Span) → Lax (List (ShownSetting Span))
  elements setting = many (while_test (goes_on_before 93) (element setting))

  -- what follows the opening bracket
  unfoldable pub array : Strict (ShownSetting Span) → Span → Strict (ShownSetting Span)
  array setting opens = do
    separators
    values ← elements setting
    here (λ closing. do
      expect (codes "]") (fault_at len (ExpectedToken 93))
      here (λ after. gives (Array (settings_of values) opens (between len closing after))))

  -- a setting, by what follows its bracket if it has one
  unfoldable pub bare_setting : (Span → Strict (ShownSetting Span)) → Strict (ShownSetting Span)
  bare_setting bracketed =
      choice (starts (holds bytes.Digit)) number
      (word_or text_kind (text_at len) (λ text. gives (Text text.0 text.1))
      (here (λ opening. case_of (codes "[") (here (λ after. bracketed (between len opening after))) applied)))

  -- the same, and the white space after it
  unfoldable pub setting_by : (Span → Strict (ShownSetting Span)) → Strict (ShownSetting Span)
  setting_by bracketed = do
    value ← bare_setting bracketed
    white
    gives value

  -- what follows a bracket, if room brackets may still open, this one included
  unfoldable pub bracketed : ℕ → Span → Strict (ShownSetting Span)
  bracketed zero opens = fails (λ text. nesting_fault opens)
  bracketed (suc room) opens = array (setting_by (bracketed room)) opens

  -- a setting in which room brackets may be open at once
  unfoldable pub setting : ℕ → Strict (ShownSetting Span)
  setting room = setting_by (bracketed room)

  -- what follows a `!` that is at start
  unfoldable pub negated : ℕ → Strict Entry
  negated start = do
    key ← name
    white
    gives (record { key = key.0; key_span = key.1; value = Flag false (record { start = start; end = key.1.end }) })

  -- what follows a key
  unfoldable pub value_of : Located Span → Lax Entry
  value_of key = case_of (codes ":") (do
    white
    value ← setting most_brackets
    gives (record { key = key.0; key_span = key.1; value = Given value }))
      (gives (record { key = key.0; key_span = key.1; value = Flag true key.1 }))

  unfoldable pub affirmed : Strict Entry
  affirmed = do
    key ← name
    white
    value_of key

  -- an entry, and the white space after it
  unfoldable pub entry : Strict Entry
  entry = here (λ text. case_of (codes "!") (negated (offset_of len text)) affirmed)

  -- an entry, after which the list of entries continues if there is a comma; it also ends before `}` and at the text's end
  unfoldable pub entry_turn : Turn (Unit {0})
  entry_turn = choice (goes_on_before 125) (do
    one ← entry
    emits one
    follows ← comma
    gives (goes_on follows))
      ends

  unfoldable pub entries : Lax (Unit {0})
  entries = repeat entry_turn

  -- what follows `%grmtools` and white space
  unfoldable pub braced : Strict (Unit {0})
  braced = here (λ opening. do
    expect (codes "{") (fault_at len (ExpectedToken 123))
    white
    entries
    expect (codes "}") (end_fault len (offset_of len opening)))

  -- if there is no section: it may be optional, or required
  unfoldable pub missing : Bool → List ℕ → Lax (List ℕ)
  missing required whole =
      choice (λ _. required) (fails (λ text. error_over MissingGrmtoolsSection 0 0)) (gives whole)

  -- the section, and the rest after it: the whole text if there is no section
  unfoldable pub section : Bool → Lax (List ℕ)
  section required = here (λ whole. do
    white
    case_of (codes "%grmtools") (do
      white
      braced
      here (λ rest. gives rest))
        (missing required whole))
