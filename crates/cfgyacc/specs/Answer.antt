-- What a constructor of a grammar returns.
use Rattle.std.specs.Prelude.{◌≡◌, ℕ, List, [], ◌∷◌, Result, Ok, Err}
use Rattle.cfgerrors.specs.Errors.{GrammarError}
use Rattle.cfgerrors.specs.declared.error.YaccFault.{YaccFault}
use Rattle.cfgerrors.specs.declared.error.YaccFault.TheVariants as faults
use Rattle.cfgfaults.specs.FaultErrors.{too_small}
use Rattle.cfgsyntax.specs.Parsed.{Parsed}
use Rattle.cfgnumbers.specs.Numbered.{Numbered, numbered}
use Rattle.cfgnumbers.specs.Fits.{Fits}

-- What a text turns out to be: either it names no kind of Yacc, because of these errors; or it was read as this.
pub data Found : Type 0 where
  Unnamed : List GrammarError → Found
  WasRead : Parsed → Found

-- what was read, in numbers
abbrev pub in_numbers : Parsed → Numbered
in_numbers parsed = numbered parsed.kind parsed.syntax

-- Why there is no grammar for what was read: its errors or, if it has none, the single error that the index type is too small.
abbrev pub IsReadRefused : ℕ → List GrammarError → Numbered → List GrammarError → Type 0
IsReadRefused max [] g reported = (Fits max g → ⊥) × (reported ≡ too_small)
IsReadRefused max (error ∷ errors) g reported = reported ≡ error ∷ errors

-- why there is no grammar
abbrev pub IsRefused : ℕ → Found → List GrammarError → Type 0
IsRefused max (Unnamed errors) reported = reported ≡ errors
IsRefused max (WasRead parsed) reported = IsReadRefused max parsed.errors (in_numbers parsed) reported

-- the grammar of what was read, if that has no errors and fits
abbrev pub IsGrammar : ℕ → Found → Numbered → Type 0
IsGrammar max (Unnamed errors) grammar = ⊥
IsGrammar max (WasRead parsed) grammar = (parsed.errors ≡ []) × Fits max (in_numbers parsed) × (grammar ≡ in_numbers parsed)

-- The result for a text that turns out to be this, for an index type with this greatest number: the grammar if there is one, and otherwise
-- the errors. Running out of memory says nothing about the text.
abbrev pub IsAnswer : ℕ → Found → Result Numbered YaccFault → Type 0
IsAnswer max found (Ok grammar) = IsGrammar max found grammar
IsAnswer max found (Err faults.OutOfMemory) = Unit {0}
IsAnswer max found (Err (faults.Errors reported)) = IsRefused max found reported.items
