-- What is made of a text: of the errors for which it is refused, or of its grammar.
use Rattle.std.specs.Prelude.{◌≡◌, ℕ, ◌⊎◌, Bool, true, false, List, [], Option, Some, None}
use Rattle.cfgrammar.specs.Answer.{Found, Unnamed, WasRead, IsRefused, in_numbers}
use Rattle.cfgrammar.specs.Errors.{GrammarError}
use Rattle.cfgrammar.specs.Fits.{Fits}
use Rattle.cfgrammar.specs.GrammarOf.{IsFoundAs, IsFoundItself}
use Rattle.cfgrammar.specs.Named.{NamesNoKind}
use Rattle.cfgrammar.specs.Numbered.{Numbered}
use Rattle.cfgrammar.specs.Syntax.{Syntax}
use Rattle.cfgrammar.specs.YaccKind.{YaccKind}
use Rattle.cfgprogram.specs.declared.kinds.KindArg.{KindArg}
use Rattle.cfgprogram.specs.declared.kinds.KindArg.TheVariants.{Named, Section}

-- what a text is found to be, as a file of the requested kind, or else of the one that it names itself
abbrev pub IsFound : KindArg → List ℕ → Found → Type 0
IsFound (Named kind) text found = IsFoundAs kind text found
IsFound Section text found = IsFoundItself text found

-- the greatest index of the grammars
abbrev pub greatest : ℕ
greatest = 4294967295

-- whether a text names no kind
abbrev pub IsUnnamed : List ℕ → Bool → Type 0
IsUnnamed text true = NamesNoKind text
IsUnnamed text false = NamesNoKind text → ⊥

-- the kind that a text was read as, if it was read: not if its section names none
abbrev pub kind_read : Found → Option YaccKind
kind_read (Unnamed errors) = None
kind_read (WasRead parsed) = Some parsed.kind

-- the syntax that was read, unless the text names no kind
abbrev pub syntax_read : Found → Option Syntax
syntax_read (Unnamed errors) = None
syntax_read (WasRead parsed) = Some parsed.syntax

-- A text that is found to be this is refused, and this is made of the errors, and of the syntax that was read.
abbrev pub IsMadeOfErrors : {Made : Type 0} → (Option Syntax → List GrammarError → Made → Type 0) → Found → Made → Type 0
IsMadeOfErrors OfErrors found made =
    (errors : List GrammarError) × IsRefused greatest found errors × OfErrors (syntax_read found) errors made

-- It is a grammar, namely what was read, if that has no errors and fits; and this is made of its syntax, and of its numbered form.
abbrev pub IsMadeOfGrammar : {Made : Type 0} → (Syntax → Numbered → Made → Type 0) → Found → Made → Type 0
IsMadeOfGrammar OfGrammar (Unnamed errors) made = ⊥
IsMadeOfGrammar OfGrammar (WasRead parsed) made =
    (parsed.errors ≡ []) × Fits greatest (in_numbers parsed) × OfGrammar parsed.syntax (in_numbers parsed) made

-- one of the two
abbrev pub IsMadeOf : {Made : Type 0} → (Option Syntax → List GrammarError → Made → Type 0) → (Syntax → Numbered → Made → Type 0) → Found → Made → Type 0
IsMadeOf OfErrors OfGrammar found made = IsMadeOfErrors OfErrors found made ⊎ IsMadeOfGrammar OfGrammar found made

module _ {Made : Type 0} (OfErrors : Option Syntax → List GrammarError → Made → Type 0) (OfGrammar : Syntax → Numbered → Made → Type 0) where
  -- what is returned for a text that is found to be this: what is made of it, and the kind that it was read as
  abbrev pub IsMadeOfRead : Found → Made × Option YaccKind → Type 0
  IsMadeOfRead found read = IsMadeOf OfErrors OfGrammar found read.0 × (read.1 ≡ kind_read found)
