-- The words that name kinds of findings, and what becomes of the findings of each kind.
use Rattle.std.specs.Prelude.{ℕ, ◌==◌, List, [], ◌∷◌, Option, if◌then◌else◌, codes, map, slice_index_or}
use Rattle.std.specs.List.{find}
use Rattle.std.specs.Str.{bytes_eq}
use Rattle.finding_kinds.specs.declared.finding_kind.FindingKind.{FindingKind}
use Rattle.finding_kinds.specs.declared.finding_kind.FindingKind.TheVariants.{UnusedRule, UnusedToken, ShadowedRule, StartWithoutSentence, NoSentence, UnusableRule, UnusableProduction, UselessSymbol, CyclicRule, RepeatedProduction, UnusedPrecedence, RepeatedToken, OverriddenPrecedence, GluedKeyword, NeedlessExpectUnused, EscapedToken, ImplicitEmpty, ShiftReduce, ReduceReduce, UnmetExpect, UndefinedPrecedence, MissingEmpty, SwallowedRule, UnknownKey, UnknownReference, UnreadValue, MisspelledDefine, RepeatedAlias, StrayComma}
use Rattle.finding_kinds.specs.declared.levels.Level.{Level}
use Rattle.finding_kinds.specs.declared.levels.Level.TheVariants.{Allow, Warn, Deny}
use Rattle.finding_kinds.specs.declared.levels.Levels.{Levels}

-- the word that names a kind
abbrev pub word_of : FindingKind → List ℕ
word_of UnusedRule = codes "unused-rule"
word_of UnusedToken = codes "unused-token"
word_of ShadowedRule = codes "shadowed-rule"
word_of StartWithoutSentence = codes "start-without-sentence"
word_of NoSentence = codes "no-sentence"
word_of UnusableRule = codes "unusable-rule"
word_of UnusableProduction = codes "unusable-production"
word_of UselessSymbol = codes "useless-symbol"
word_of CyclicRule = codes "cyclic-rule"
word_of RepeatedProduction = codes "repeated-production"
word_of UnusedPrecedence = codes "unused-precedence"
word_of RepeatedToken = codes "repeated-token"
word_of OverriddenPrecedence = codes "overridden-precedence"
word_of GluedKeyword = codes "glued-keyword"
word_of NeedlessExpectUnused = codes "needless-expect-unused"
word_of EscapedToken = codes "escaped-token"
word_of ImplicitEmpty = codes "implicit-empty"
word_of ShiftReduce = codes "shift-reduce"
word_of ReduceReduce = codes "reduce-reduce"
word_of UnmetExpect = codes "unmet-expect"
word_of UndefinedPrecedence = codes "undefined-precedence"
word_of MissingEmpty = codes "missing-empty"
word_of SwallowedRule = codes "swallowed-rule"
word_of UnknownKey = codes "unknown-key"
word_of UnknownReference = codes "unknown-reference"
word_of UnreadValue = codes "unread-value"
word_of MisspelledDefine = codes "misspelled-define"
word_of RepeatedAlias = codes "repeated-alias"
word_of StrayComma = codes "stray-comma"

-- the kinds, in order
abbrev pub kinds : List FindingKind
kinds = UnusedRule ∷ UnusedToken ∷ ShadowedRule ∷ StartWithoutSentence ∷ NoSentence ∷ UnusableRule ∷ UnusableProduction
    ∷ UselessSymbol ∷ CyclicRule ∷ RepeatedProduction ∷ UnusedPrecedence ∷ RepeatedToken ∷ OverriddenPrecedence
    ∷ GluedKeyword ∷ NeedlessExpectUnused ∷ EscapedToken ∷ ImplicitEmpty ∷ ShiftReduce ∷ ReduceReduce ∷ UnmetExpect
    ∷ UndefinedPrecedence ∷ MissingEmpty ∷ SwallowedRule ∷ UnknownKey ∷ UnknownReference ∷ UnreadValue
    ∷ MisspelledDefine ∷ RepeatedAlias ∷ StrayComma ∷ []

-- the kind that a word names
abbrev pub finding_named : List ℕ → Option FindingKind
finding_named word = find (λ kind. bytes_eq (word_of kind) word) kinds

-- the number of a kind among the kinds
abbrev pub number : FindingKind → ℕ
number UnusedRule = 0
number UnusedToken = 1
number ShadowedRule = 2
number StartWithoutSentence = 3
number NoSentence = 4
number UnusableRule = 5
number UnusableProduction = 6
number UselessSymbol = 7
number CyclicRule = 8
number RepeatedProduction = 9
number UnusedPrecedence = 10
number RepeatedToken = 11
number OverriddenPrecedence = 12
number GluedKeyword = 13
number NeedlessExpectUnused = 14
number EscapedToken = 15
number ImplicitEmpty = 16
number ShiftReduce = 17
number ReduceReduce = 18
number UnmetExpect = 19
number UndefinedPrecedence = 20
number MissingEmpty = 21
number SwallowedRule = 22
number UnknownKey = 23
number UnknownReference = 24
number UnreadValue = 25
number MisspelledDefine = 26
number RepeatedAlias = 27
number StrayComma = 28

-- A start rule without a sentence, an expectation that isn't met and a reference to no symbol are errors, and every other finding is a
-- warning, except for two groups that aren't reported: those that only follow from a rule without a sentence, and those about a style that
-- many files have.
abbrev pub default_level : FindingKind → Level
default_level StartWithoutSentence = Deny
default_level UnusableRule = Allow
default_level UnusableProduction = Allow
default_level UselessSymbol = Allow
default_level EscapedToken = Allow
default_level ImplicitEmpty = Allow
default_level UnmetExpect = Deny
default_level UnknownReference = Deny
default_level _ = Warn

abbrev pub default_levels : Levels
default_levels = record { by_kind = map default_level kinds }

-- one level for all kinds
abbrev pub all_levels : Level → Levels
all_levels level = record { by_kind = map (λ _. level) kinds }

-- the level of a kind
abbrev pub level_of : Levels → FindingKind → Level
level_of levels kind = slice_index_or levels.by_kind (number kind) Warn

-- the levels after a kind is given this one: each other kind keeps its own
abbrev pub with_level : Levels → FindingKind → Level → Levels
with_level levels kind level = record { by_kind = map (λ other. if number other == number kind then level else level_of levels other) kinds }
