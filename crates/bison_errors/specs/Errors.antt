-- What is wrong with a file: first its text, and then its names.
use Rattle.std.specs.Prelude.{◌≡◌, ℕ, Bool, true, false, List, [], ◌∷◌, ◌++◌, ◌==◌, ◌||◌, ◌&&◌, not, map, length, get_or, position, Option, Some, None, is_some, if◌then◌else◌}
use Rattle.std.specs.List.{filter_map, flat_map}
use Rattle.std.specs.List.Sorted.{IsPermutation, IsSortedByKey, IsStableByKey}
use Rattle.std.specs.Map.{lookup}
use Rattle.std.specs.Option.{option_map_or}
use Rattle.std.specs.Ordering.{nat_cmp}
use Rattle.std.specs.Str.{bytes_eq}
use Rattle.cfgbase.specs.declared.span.Span.{Span}
use Rattle.cfgwords.specs.FileWords as tree
use Rattle.cfgitems.specs.Building.{has_name, has_rule}
use Rattle.cfgitems.specs.Syntax.{Syntax, Symbol, Rule, symbol_word}
use Rattle.cfgitems.specs.Occurrences.{Occurrence}
use Rattle.cfgitems.specs.declared.occurrence.UniqueKind.{UniqueKind}
use Rattle.cfgitems.specs.declared.occurrence.UniqueKind.TheVariants as unique
use Rattle.cfgitems.specs.declared.precedence.Precedence.{Precedence}
use Rattle.cfgast.specs.Check.{symbol_error}
use Rattle.bison_words.specs.declared.words.WordFault.{WordFault}
use Rattle.bison_words.specs.Words.{Lexeme, Word, Fault}
use Rattle.bison_reader.specs.declared.item.Part.{Part}
use Rattle.bison_reader.specs.declared.item.PartKind.{PartKind}
use Rattle.bison_reader.specs.declared.item.PartKind.TheVariants as parts
use Rattle.bison_reader.specs.Items.{Item, Unexpected, RefusedForRules, StartNamed, ProductionRead}
use Rattle.bison_errors.specs.declared.error.Error.{Error}
use Rattle.bison_errors.specs.declared.error.ErrorKind.{ErrorKind}
use Rattle.bison_errors.specs.declared.error.ErrorKind.TheVariants as kinds
use Rattle.bison_errors.specs.declared.error.Once.{Once}
use Rattle.bison_tree.specs.Names.{name_at, with_one}
use Rattle.bison_tree.specs.Tokens.{lexeme_at, nowhere, span_at}
use Rattle.bison_tree.specs.Productions.{is_code, is_followed, is_symbol}
use Rattle.bison_tree.specs.Tree.{first_start, number_in}

-- one place is wrong; or it is wrong beside another
abbrev pub error_at : ErrorKind → Span → Error
error_at kind span = record { kind = kind; span = span; other = None }

abbrev pub error_beside : ErrorKind → Span → Span → Error
error_beside kind span other = record { kind = kind; span = span; other = Some other }

-- of a word
abbrev pub fault_error : WordFault → Error
fault_error fault = error_at (kinds.Word fault.kind) fault.span

abbrev pub is_fault : Lexeme → Bool
is_fault Fault = true
is_fault _ = false

-- the words of the `%prec`, the `%empty` and the `%dprec` of a production, so far
abbrev pub none_yet : Once
none_yet = record { precedence = None; empty = None; dynamic = None }

abbrev pub noted : Once → PartKind → Option ℕ
noted once parts.Precedence = once.precedence
noted once parts.Empty = once.empty
noted once parts.DynamicPrecedence = once.dynamic
noted once _ = None

abbrev pub some_or : Option ℕ → ℕ → Option ℕ
some_or (Some first) word = Some first
some_or None word = Some word

abbrev pub with_noted : Once → PartKind → ℕ → Once
with_noted once parts.Precedence word = record once { precedence = some_or once.precedence word }
with_noted once parts.Empty word = record once { empty = some_or once.empty word }
with_noted once parts.DynamicPrecedence word = record once { dynamic = some_or once.dynamic word }
with_noted once _ word = once

abbrev pub is_priority : PartKind → Bool
is_priority parts.DynamicPrecedence = true
is_priority _ = false

-- whether a production has a symbol, or an action inside of it
abbrev pub has_symbol : List Part → Bool
has_symbol [] = false
has_symbol (part ∷ rest) = is_symbol part.kind || ((is_code part.kind && is_followed rest) || has_symbol rest)

-- the word of the first `%empty`
abbrev pub is_empty_mark : PartKind → Bool
is_empty_mark parts.Empty = true
is_empty_mark _ = false

abbrev pub first_empty : List Part → Option ℕ
first_empty [] = None
first_empty (part ∷ rest) = if is_empty_mark part.kind then Some part.word else first_empty rest

-- words are those of the file
module _ (words : List Word) where
  abbrev pub unexpected_error : ℕ → ErrorKind → List Error
  unexpected_error word kind = if is_fault (lexeme_at words word) then [] else error_at kind (span_at words word) ∷ []

  -- what a production has once at most
  abbrev pub repeat_error : Option ℕ → Part → List Error
  repeat_error None part = []
  repeat_error (Some first) part = error_beside kinds.RepeatedInProduction (span_at words part.word) (span_at words first) ∷ []

  -- a `%dprec` is at least 1
  abbrev pub priority_error : Part → List Error
  priority_error part = if is_priority part.kind && number_in (lexeme_at words part.last) == 0
      then error_at kinds.IllegalPriority (span_at words part.last) ∷ [] else []

  abbrev pub parts_errors : Once → List Part → List Error
  parts_errors once [] = []
  parts_errors once (part ∷ rest) =
      priority_error part ++ (repeat_error (noted once part.kind) part ++ parts_errors (with_noted once part.kind part.word) rest)

  abbrev pub mark_error : Option ℕ → List Error
  mark_error None = []
  mark_error (Some word) = error_at kinds.NonEmptyProduction (span_at words word) ∷ []

  abbrev pub empty_error : List Part → List Error
  empty_error parts = if has_symbol parts then mark_error (first_empty parts) else []

  abbrev pub item_errors : Item → List Error
  item_errors (Unexpected word expected) = unexpected_error word (kinds.Unexpected expected)
  item_errors (ProductionRead production) = parts_errors none_yet production.parts ++ empty_error production.parts
  item_errors _ = []

  abbrev pub text_errors : List WordFault → List Item → List Error
  text_errors faults items = map fault_error faults ++ flat_map item_errors items

  -- `%nterm` has names of rules alone, and all `%start` name one rule
  module _ (names : List (List ℕ)) where
    abbrev pub start_error : Option ℕ → ℕ → List Error
    start_error None word = []
    start_error (Some first) word = if bytes_eq (name_at names first) (name_at names word) then []
        else error_beside kinds.SeveralStarts (span_at words word) (span_at words first) ∷ []

    abbrev pub declaration_errors : Option ℕ → Item → List Error
    declaration_errors first (RefusedForRules word) = error_at kinds.NotForRules (span_at words word) ∷ []
    declaration_errors first (StartNamed word) = start_error first word
    declaration_errors first _ = []

-- where a name is a token's first
abbrev pub span_of_token : Syntax → List ℕ → Span
span_of_token s name = option_map_or (λ i. get_or s.spans i nowhere) (position (bytes_eq name) s.tokens) nowhere

-- a rule that is a token
abbrev pub rule_error : Syntax → List ℕ × Rule → Option Error
rule_error s rule = if has_name rule.0 s.tokens
    then Some (error_beside kinds.RuleIsToken rule.1.name.span (span_of_token s rule.0)) else None

-- a token's precedence that isn't the first one given to it
abbrev pub given_error : Span → Option (Precedence × Span) → Option Error
given_error span None = None
given_error span (Some first) = if first.1.start == span.start then None else Some (error_beside kinds.DuplicatePrecedence span first.1)

abbrev pub occurrence_error : Syntax → UniqueKind → Option (List ℕ) → Span → Option Error
occurrence_error s unique.Precedence (Some name) span = given_error span (lookup (bytes_eq name) s.tables.precedences)
occurrence_error s _ _ span = None

abbrev pub precedence_error : Syntax → Occurrence → Option Error
precedence_error s occurrence = occurrence_error s occurrence.what.kind occurrence.what.token occurrence.span

-- a symbol that is neither a token nor a rule, at its first use; known are the names of those before
abbrev pub unknown_error : Symbol → Error
unknown_error symbol = error_at kinds.UnknownSymbol (symbol_word symbol).span

abbrev pub is_unknown : Syntax → List (List ℕ) → Symbol → Bool
is_unknown s known symbol = is_some (symbol_error s symbol) && not (has_name (symbol_word symbol).name known)

abbrev pub unknown_after : Syntax → List (List ℕ) → List Symbol → List Error
unknown_after s known [] = []
unknown_after s known (symbol ∷ rest) = if is_unknown s known symbol
    then unknown_error symbol ∷ unknown_after s (with_one known (symbol_word symbol).name) rest else unknown_after s known rest

abbrev pub symbols_of : Syntax → List Symbol
symbols_of s = flat_map (λ production. production.symbols) s.productions

-- there is a rule with a production, and the start is a rule
abbrev pub no_rule : Error
no_rule = error_at kinds.NoRule nowhere

abbrev pub start_errors : Syntax → Option tree.Word → List Error
start_errors s None = no_rule ∷ []
start_errors s (Some word) =
    (if length s.productions == 0 then no_rule ∷ [] else [])
    ++ (if has_rule word.name s.rules then [] else error_at kinds.InvalidStart word.span ∷ [])

-- what is missing is an error only if the text has none: what was passed after an error may have it
abbrev pub missing_errors : Bool → Syntax → List Error
missing_errors true s = unknown_after s [] (symbols_of s) ++ start_errors s s.start
missing_errors false s = []

abbrev pub tree_errors : Syntax → List Error
tree_errors s = filter_map (rule_error s) s.rules ++ filter_map (precedence_error s) s.occurrences

-- is_whole says that the text has no error
abbrev pub name_errors : Bool → List Word → List (List ℕ) → List Item → Syntax → List Error
name_errors is_whole words names items s =
    flat_map (declaration_errors words names (first_start items)) items ++ (tree_errors s ++ missing_errors is_whole s)

-- the same errors sorted by offset; those at the same offset stay in their order
abbrev pub offset_of : Error → ℕ
offset_of error = error.span.start

pub record AreByOffset (reported errors : List Error) : Type 0 where
  pub same : IsPermutation reported errors
  pub sorted : IsSortedByKey offset_of nat_cmp errors
  pub stable : IsStableByKey offset_of nat_cmp reported errors

-- the errors of the text and then those of names, each by offset
pub record AreErrors (reported_of_text reported_of_names errors : List Error) : Type 0 where
  pub of_text : List Error
  pub of_names : List Error
  pub text_sorted : AreByOffset reported_of_text of_text
  pub names_sorted : AreByOffset reported_of_names of_names
  pub all : errors ≡ of_text ++ of_names
