-- What a check finds wrong, as the error that validation returns for a syntax.
use Rattle.std.specs.Prelude.{Option, Some, None, Result, Ok, Err}
use Rattle.cfgast.specs.Check.{nowhere}
use Rattle.cfgerrors.specs.Errors.{GrammarError, InvalidStartRule, UnknownRuleRef, UnknownToken, NoPrecForToken, UnknownEPP, NoStartRule, error_at}
use Rattle.cfgvalidation.specs.declared.validation.ValidationError.{ValidationError}
use Rattle.cfgvalidation.specs.declared.validation.ValidationError.TheVariants as invalid

abbrev pub validation_error : ValidationError → GrammarError
validation_error invalid.NoStart = error_at NoStartRule nowhere
validation_error (invalid.Start name span) = error_at (InvalidStartRule name.now) span
validation_error (invalid.Rule name span) = error_at (UnknownRuleRef name.now) span
validation_error (invalid.Token name span) = error_at (UnknownToken name.now) span
validation_error (invalid.Precedence name) = error_at (NoPrecForToken name.now) nowhere
validation_error (invalid.PrintedForm name span) = error_at (UnknownEPP name.now) span

-- the error that a check of the code returns, if it fails
abbrev pub found : Result (Unit {0}) ValidationError → Option GrammarError
found (Ok _) = None
found (Err invalid) = Some (validation_error invalid)
