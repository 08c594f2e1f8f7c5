-- As what a text is read: as a file of one of the library's kinds, or as a Bison file.
use Rattle.std.specs.Prelude.{◌≡◌, ◌⊎◌, ℕ, List, Some, None}
use Rattle.cfgrammar.specs.Answer.{Found, IsGrammar, IsRefused}
use Rattle.cfgrammar.specs.Errors.{GrammarError}
use Rattle.cfgrammar.specs.GrammarOf.{IsFoundAs}
use Rattle.cfgrammar.specs.Named.{NamesNoKind}
use Rattle.cfgrammar.specs.Numbered.{Numbered}
use Rattle.cfgrammar.specs.YaccKind.{YaccKind}
use Rattle.cfgrammar.specs.YaccKind.TheVariants.{Original}
use Rattle.cfgrammar.specs.YaccOriginalActionKind.TheVariants.{NoAction}
use Rattle.cfgprogram.specs.declared.kinds.KindArg.{KindArg}
use Rattle.cfgprogram.specs.declared.kinds.KindArg.TheVariants as argument
use Rattle.cfgprogram.specs.ReadText.{greatest}
use Rattle.cfglint_shell.specs.declared.file_kind.FileKind.TheVariants.{Yacc, Bison}
use Rattle.cfglint_shell.specs.declared.file_kind.KindRequest.TheVariants.{Named, Section}
use Rattle.cfglint_shell.specs.declared.linter.LintOptions.{LintOptions}
use Rattle.cfglint.specs.Signs.{HasBisonSign}
use Rattle.cfglint.specs.declared.reading.Reading.{Reading}
use Rattle.cfglint.specs.declared.reading.Reading.TheVariants as reading

-- the kind of files that name none, if they aren't Bison's
abbrev pub plain_kind : YaccKind
plain_kind = Original NoAction

-- the text has a grammar as a file of this kind; or it is refused, for these errors
pub record IsPlainGrammar (text : List ℕ) : Type 0 where
  pub found : Found
  pub is_found : IsFoundAs plain_kind text found
  pub grammar : Numbered
  pub is_grammar : IsGrammar greatest found grammar

pub record IsPlainlyRefused (text : List ℕ) : Type 0 where
  pub found : Found
  pub is_found : IsFoundAs plain_kind text found
  pub errors : List GrammarError
  pub refused : IsRefused greatest found errors

-- the text names no kind, none is requested, and there is no default kind
pub record IsOpen (options : LintOptions) (text : List ℕ) : Type 0 where
  pub unrequested : options.kind ≡ None
  pub unnamed : NamesNoKind text
  pub no_default : options.default_kind ≡ None

-- As which kind a text is read: as the requested one; without a request as the one that its section names, or if it names none as the
-- default kind; without that as a plain one, unless it is read as a Bison file.
pub data IsReadAsYacc (options : LintOptions) (text : List ℕ) : KindArg → Type 0 where
  requested : {kind : YaccKind} → options.kind ≡ Some (Named (Yacc kind)) → IsReadAsYacc options text (argument.Named kind)
  by_section : options.kind ≡ Some Section → IsReadAsYacc options text argument.Section
  itself : options.kind ≡ None → (NamesNoKind text → ⊥) → IsReadAsYacc options text argument.Section
  by_default : {kind : YaccKind} → options.kind ≡ None → NamesNoKind text → options.default_kind ≡ Some (Yacc kind)
      → IsReadAsYacc options text (argument.Named kind)
  plain : IsOpen options text → (HasBisonSign text → ⊥) ⊎ IsPlainGrammar text → IsReadAsYacc options text (argument.Named plain_kind)

-- A text is read as a Bison file if that is requested, or the default where it names no kind. It is also guessed to be one if it has
-- something that only Bison's files have, and is refused otherwise.
pub data IsReadAsBison (options : LintOptions) (text : List ℕ) : Type 0 where
  requested : options.kind ≡ Some (Named Bison) → IsReadAsBison options text
  by_default : options.kind ≡ None → NamesNoKind text → options.default_kind ≡ Some Bison → IsReadAsBison options text
  guessed : IsOpen options text → HasBisonSign text → IsPlainlyRefused text → IsReadAsBison options text

-- what the code decides before it reads the text
abbrev pub IsReading : LintOptions → List ℕ → Reading → Type 0
IsReading options text (reading.Yacc kind) = IsReadAsYacc options text kind
IsReading options text reading.Bison = IsReadAsBison options text
IsReading options text reading.Either = IsOpen options text
