-- Validation of a syntax: the first check that fails, in this order. There is a start; the start is a rule; then, rule by rule and
-- production by production, the token of its `%prec` is a token and has a precedence, and what each symbol names exists; then each key of
-- `%epp` is a token; then what each symbol of the `%expect-unused` lists names exists.
use Rattle.std.specs.Prelude.{ℕ, List, [], ◌∷◌, Option, Some, None, slice_get, if◌then◌else◌, not}
use Rattle.std.specs.Option.{option_or, option_and_then}
use Rattle.cfgwords.specs.FileWords.{Word}
use Rattle.cfgbase.specs.declared.span.Span.{Span}
use Rattle.cfgitems.specs.Building.{has_entry, has_name, has_rule}
use Rattle.cfgitems.specs.Syntax.{Syntax, Rule, Production, Symbol, RuleSymbol, TokenSymbol}
use Rattle.cfgerrors.specs.Errors.{GrammarError, InvalidStartRule, UnknownRuleRef, UnknownToken, NoPrecForToken, UnknownEPP, NoStartRule, error_at}

-- the first error of the elements, if there is one
abbrev pub first_error : {A : Type 0} → (A → Option GrammarError) → List A → Option GrammarError
first_error f [] = None
first_error f (x ∷ xs) = option_or (f x) (first_error f xs)

-- if no span is reported, or there is none
abbrev pub nowhere : Span
nowhere = record { start = 0; end = 0 }

abbrev pub start_error : Syntax → Option Word → Option GrammarError
start_error syntax None = Some (error_at NoStartRule nowhere)
start_error syntax (Some word) = if has_rule word.name syntax.rules then None else Some (error_at (InvalidStartRule word.name) word.span)

abbrev pub symbol_error : Syntax → Symbol → Option GrammarError
symbol_error syntax (RuleSymbol word) = if has_rule word.name syntax.rules then None else Some (error_at (UnknownRuleRef word.name) word.span)
symbol_error syntax (TokenSymbol word) = if has_name word.name syntax.tokens then None else Some (error_at (UnknownToken word.name) word.span)

-- of the token of a `%prec`
abbrev pub precedence_error : Syntax → Option (List ℕ) → Option GrammarError
precedence_error syntax None = None
precedence_error syntax (Some name) =
    if not (has_name name syntax.tokens) then Some (error_at (UnknownToken name) nowhere)
    else if has_entry name syntax.tables.precedences then None else Some (error_at (NoPrecForToken name) nowhere)

abbrev pub production_error : Syntax → Production → Option GrammarError
production_error syntax production = option_or (precedence_error syntax production.precedence) (first_error (symbol_error syntax) production.symbols)

-- of the production at an index of the list of all
abbrev pub locate_error : Syntax → ℕ → Option GrammarError
locate_error syntax index = option_and_then (production_error syntax) (slice_get syntax.productions index)

abbrev pub rule_error : Syntax → List ℕ × Rule → Option GrammarError
rule_error syntax rule = first_error (locate_error syntax) rule.1.productions

-- of a token that has a printed form
abbrev pub printed_error : Syntax → List ℕ × (Span × (List ℕ × Span)) → Option GrammarError
printed_error syntax entry = if has_name entry.0 syntax.tokens then None else Some (error_at (UnknownEPP entry.0) entry.1.0)

unfoldable pub check_of : Syntax → Option GrammarError
check_of syntax =
    option_or (start_error syntax syntax.start)
    (option_or (first_error (rule_error syntax) syntax.rules)
    (option_or (first_error (printed_error syntax) syntax.tables.printed_forms)
    (first_error (symbol_error syntax) syntax.expect_unused)))
