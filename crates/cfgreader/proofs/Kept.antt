-- What holds of everything that a file's constructs give: every item's spans are pieces of the text (except an action's, which lies within
-- it), and so is each fault's. Here are the properties, and words with their spans; KeptDeclarations and KeptRules prove them construct by
-- construct.
use Rattle.std.proofs.Common.{ℕ, List, length, All}
use Rattle.std.specs.Prelude.{IfSome}
use Rattle.std.specs.Str.{IsUtf8}
use Rattle.constructs.specs.Leaves.{Gives, ValueOf, Leaves}
use Rattle.constructs.specs.Construct.{Construct}
use Rattle.constructs.proofs.Keeps.{Keeps}
use Rattle.cfgwords.specs.declared.fault.Fault.{Fault}
use Rattle.cfgwords.specs.FileWords.{Word, IsName, IsInteger, word_at, integer_at, word_of}
use Rattle.cfgwords.specs.TextSpans.{IsPiece, IsWithin}
use Rattle.cfgwords.proofs.NameStarts.{begins_as_name}
use Rattle.cfgwords.proofs.WordOffsets.{IsWordAt, ComesAfter, name_at, integer_is_at}
use Rattle.cfgitems.specs.Items.{Item, TokenDeclared, StartDeclared, ActionTypeDeclared, PrintedFormDeclared, ExpectDeclared, ExpectReduceReduceDeclared, ExpectedUnused, AvoidInsertDeclared, ImplicitTokenDeclared, PrecedenceDeclared, RuleBegun, RuleNamed, TokenQuoted, PrecedenceUsed, Alternative}
use Rattle.cfgitems.specs.Syntax.{symbol_word}

-- a name is a piece of the text, and begins with a byte that names begin with
abbrev pub IsNameAt : List ℕ → Word → Type 0
IsNameAt whole name = IsWordAt whole name × begins_as_name name.name

-- an item's spans are pieces of the text, an action's lies within it, and a rule has a name
abbrev pub IsItemAt : List ℕ → Item → Type 0
IsItemAt whole (TokenDeclared word) = IsWordAt whole word
IsItemAt whole (StartDeclared word) = IsWordAt whole word
IsItemAt whole (ActionTypeDeclared text) = IsPiece whole text.1
IsItemAt whole (PrintedFormDeclared token form) = IsWordAt whole token × IsPiece whole form.1
IsItemAt whole (ExpectDeclared number) = IsPiece whole number.1
IsItemAt whole (ExpectReduceReduceDeclared number) = IsPiece whole number.1
IsItemAt whole (ExpectedUnused symbol) = IsWordAt whole (symbol_word symbol)
IsItemAt whole (AvoidInsertDeclared word) = IsWordAt whole word
IsItemAt whole (ImplicitTokenDeclared word) = IsWordAt whole word
IsItemAt whole (PrecedenceDeclared kind word) = IsWordAt whole word
IsItemAt whole (RuleBegun word) = IsWordAt whole word
IsItemAt whole (RuleNamed head) = IsNameAt whole head.name
IsItemAt whole (TokenQuoted word) = IsWordAt whole word
IsItemAt whole (PrecedenceUsed word) = IsWordAt whole word
IsItemAt whole (Alternative head body) = IsNameAt whole head.name × All (λ token. IsWordAt whole (word_of token)) body.symbols
    × All (λ token. IsWordAt whole (word_of token)) body.precedences × IfSome body.action (λ action. IsWithin whole action.1) × IsPiece whole body.span
IsItemAt whole _ = Unit {0}

module _ (whole : List ℕ) where
  abbrev pub IsAt : Fault → Type 0
  IsAt fault = IsPiece whole fault.span

  abbrev pub KeepsOffsets : {l : Leaves} {G : Gives} → Construct Item Fault l G → List ℕ → (ValueOf G → Type 0) → Type 0
  KeepsOffsets = Keeps (ComesAfter whole) (IsItemAt whole) IsAt

module _ (whole : List ℕ) (utf8 : IsUtf8 whole) where
  pub name_goes : (from text word rest : List ℕ) → ComesAfter whole from text → IsName text word rest → ComesAfter whole from rest
  name_goes from text word rest t w = (name_at whole utf8 from text word rest t w).0

  pub name_is : (from text word rest : List ℕ) → ComesAfter whole from text → IsName text word rest → IsWordAt whole (word_at (length whole) text word rest)
  name_is from text word rest t w = (name_at whole utf8 from text word rest t w).1

  pub integer_goes : (from text : List ℕ) (number : ℕ) (rest : List ℕ) → ComesAfter whole from text → IsInteger text number rest → ComesAfter whole from rest
  integer_goes from text number rest t w = (integer_is_at whole utf8 from text number rest t w).0

  pub integer_is : (from text : List ℕ) (number : ℕ) (rest : List ℕ) → ComesAfter whole from text → IsInteger text number rest → IsPiece whole (integer_at (length whole) text number rest).1
  integer_is from text number rest t w = (integer_is_at whole utf8 from text number rest t w).1
