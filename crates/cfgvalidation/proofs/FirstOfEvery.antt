-- The first of all errors is that of the first check that fails.
use Rattle.std.proofs.Common.{◌≡◌, List, [], ◌∷◌, ◌++◌, Option, Some, None, slice_get, refl, ap, ◌∙◌, append-nil, append_assoc}
use Rattle.std.specs.List.{cons_option, filter_map, flat_map}
use Rattle.std.specs.Option.{option_map_or, option_or, option_and_then, option_to_list}
use Rattle.cfgitems.specs.Syntax.{Syntax, Production}
use Rattle.cfgerrors.specs.Errors.{GrammarError}
use Rattle.cfgast.specs.Check.{check_of, first_error, locate_error, precedence_error, printed_error, production_error, rule_error, start_error, symbol_error}
use Rattle.cfgvalidation.specs.EveryError.{every_error, located_errors, production_errors, rule_errors}

abbrev first_of : List GrammarError → Option GrammarError
first_of errors = slice_get errors 0

of_both : (xs ys : List GrammarError) → first_of (xs ++ ys) ≡ option_or (first_of xs) (first_of ys)
of_both [] ys = refl
of_both (x ∷ xs) ys = refl

of_one : (error : Option GrammarError) → first_of (option_to_list error) ≡ error
of_one None = refl
of_one (Some error) = refl

of_optional : (error : Option GrammarError) (errors : List GrammarError) → first_of (cons_option error errors) ≡ option_or error (first_of errors)
of_optional None errors = refl
of_optional (Some error) errors = refl

of_each : {A : Type 0} (error : A → Option GrammarError) (xs : List A) → first_of (filter_map error xs) ≡ first_error error xs
of_each error [] = refl
of_each error (x ∷ xs) = of_optional (error x) (filter_map error xs) ∙ ap (option_or (error x)) (of_each error xs)

of_lists : {A : Type 0} (errors : A → List GrammarError) (error : A → Option GrammarError) → ((x : A) → first_of (errors x) ≡ error x) → (xs : List A)
    → first_of (flat_map errors xs) ≡ first_error error xs
of_lists errors error same [] = refl
of_lists errors error same (x ∷ xs) =
    of_both (errors x) (flat_map errors xs) ∙ (λ i. option_or (same x i) (of_lists errors error same xs i))

of_production : (s : Syntax) (production : Production) → first_of (production_errors s production) ≡ production_error s production
of_production s production =
    of_both (option_to_list (precedence_error s production.precedence)) (filter_map (symbol_error s) production.symbols)
    ∙ (λ i. option_or (of_one (precedence_error s production.precedence) i) (of_each (symbol_error s) production.symbols i))

at_index : (s : Syntax) (production : Option Production)
    → first_of (option_map_or (production_errors s) production []) ≡ option_and_then (production_error s) production
at_index s None = refl
at_index s (Some production) = of_production s production

pub first_of_every : (s : Syntax) → slice_get (every_error s) 0 ≡ check_of s
unfolding every_error check_of
first_of_every s =
    let rules = of_lists (rule_errors s) (rule_error s)
    (λ rule. of_lists (located_errors s) (locate_error s) (λ index. at_index s (slice_get s.productions index)) rule.1.productions) s.rules in
    let forms = of_each (printed_error s) s.tables.printed_forms in
    let unused = of_each (symbol_error s) s.expect_unused in
    of_both (option_to_list (start_error s s.start)) _
    ∙ (λ i. option_or (of_one (start_error s s.start) i)
    ((of_both (flat_map (rule_errors s) s.rules) (filter_map (printed_error s) s.tables.printed_forms ++ filter_map (symbol_error s) s.expect_unused)
    ∙ (λ j. option_or (rules j) ((of_both (filter_map (printed_error s) s.tables.printed_forms) (filter_map (symbol_error s) s.expect_unused)
    ∙ (λ k. option_or (forms k) (unused k))) j))) i))

-- the errors so far, with one more check, and those of the rest
pub one_more : (errors : List GrammarError) (error : Option GrammarError) (rest : List GrammarError)
    → (errors ++ option_to_list error) ++ rest ≡ errors ++ cons_option error rest
one_more errors None rest = ap (λ xs. xs ++ rest) (append-nil errors)
one_more errors (Some error) rest = append_assoc errors (error ∷ []) rest
