-- What reading a text as a grammar returns: the headline of the constructors.
use Rattle.std.specs.Prelude.{◌≡◌, ℕ, List, map, Result, Ok, Err}
use Rattle.cfgkinds.specs.declared.kind.YaccKind.{YaccKind}
use Rattle.cfgsection.specs.Named.{HasOneNaming, Naming}
use Rattle.cfgerrors.specs.Errors.{header_error}
use Rattle.cfgerrors.specs.declared.error.YaccFault.{YaccFault}
use Rattle.cfgsyntax.specs.SelfNamed.{IsParsedAs}
use Rattle.cfgyacc.specs.Answer.{Found, Unnamed, WasRead, IsAnswer}
use Rattle.cfgnumbers.specs.Numbered.{Numbered}

-- The text has exactly one reading as a file of this kind, and this is what was read.
abbrev pub IsFoundAs : YaccKind → List ℕ → Found → Type 0
IsFoundAs kind text (Unnamed errors) = ⊥
IsFoundAs kind text (WasRead parsed) = IsParsedAs kind text parsed

-- for a text that names this: what was read as the kind, or the errors that keep the text from naming one
abbrev pub IsFoundNamed : List ℕ → Naming → Found → Type 0
IsFoundNamed text (Ok kind) found = IsFoundAs kind text found
IsFoundNamed text (Err errors) found = found ≡ Unnamed (map header_error errors)

-- The text names one kind, or has one list of errors that keep it from naming one, and this is what it turns out to be.
abbrev pub IsFoundItself : List ℕ → Found → Type 0
IsFoundItself text found = (one : HasOneNaming text) × IsFoundNamed text one.naming found

-- The result is that of the text's only reading as a file of this kind, for an index type with this greatest number.
abbrev pub IsGrammarOf : YaccKind → List ℕ → ℕ → Result Numbered YaccFault → Type 0
IsGrammarOf kind text max result = (found : Found) × IsFoundAs kind text found × IsAnswer max found result

-- The result is that of the kind that the text itself names: the errors that keep it from naming one, or what `IsGrammarOf` says for the
-- kind.
abbrev pub IsGrammarOfItself : List ℕ → ℕ → Result Numbered YaccFault → Type 0
IsGrammarOfItself text max result = (found : Found) × IsFoundItself text found × IsAnswer max found result
