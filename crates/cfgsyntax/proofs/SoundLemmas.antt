-- What was read is well formed, and without errors it passes validation.
use Rattle.std.proofs.Common.{◌≡◌, ℕ, true, List, [], ◌∷◌, ◌++◌, Option, Some, None, if◌then◌else◌, refl, sym, ap, ◌∙◌, subst, append_assoc}
use Rattle.std.specs.Option.{option_to_list, option_or}
use Rattle.cfgitems.specs.Building.{has_rule}
use Rattle.cfgitems.specs.Syntax.{Syntax, syntax_of}
use Rattle.cfgkinds.specs.declared.kind.YaccKind.{YaccKind}
use Rattle.cfgerrors.specs.Errors.{GrammarError, InvalidStartRule, error_at}
use Rattle.cfgast.specs.Check.{first_error, start_error, rule_error, printed_error, symbol_error, check_of}
use Rattle.cfgsyntax.specs.Faults.{all_errors, errors_of}
use Rattle.cfgsyntax.specs.Reads.{Stop, Reads, HasOneReading}
use Rattle.cfgitems.specs.Items.{Item}
use Rattle.cfgwords.specs.FileWords.{Word}
use Rattle.cfgast.specs.Writing.{started_at}
use Rattle.cfgast.specs.Sound.{IsSound}

-- no errors at all, so none of the last kind
none_second : (first : List GrammarError) (second : Option GrammarError) → [] ≡ first ++ option_to_list second → second ≡ None
none_second first None e = refl
none_second [] (Some error) e = let no : [] ≡ error ∷ [] = e in cc
none_second (x ∷ first) (Some error) e = let no : [] ≡ x ∷ (first ++ error ∷ []) = e in cc

pub checked : (errors first more : List GrammarError) (last : Option GrammarError) → errors ≡ first ++ (more ++ option_to_list last) → errors ≡ [] → last ≡ None
checked errors first more last e none = none_second (first ++ more) last (sym none ∙ e ∙ sym (append_assoc first more (option_to_list last)))

-- what holds of the syntax of every reading
pub of_reading : (kind : YaccKind) (text : List ℕ) (s : Syntax) (P : Syntax → Type 0) → HasOneReading kind text
    → ((items : List Item) (stop : Option Stop) → Reads kind text items stop → s ≡ syntax_of items)
    → ((items : List Item) (stop : Option Stop) → Reads kind text items stop → P (syntax_of items)) → P s
of_reading kind text s P one same holds = subst P (sym (same one.items one.stop one.reads)) (holds one.items one.stop one.reads)

-- the errors that were found, by any reading of the text
pub errors_read : (errors : List GrammarError) (made : Syntax) (found : Option Stop) (items : List Item) (stop : Option Stop)
    → errors ≡ all_errors made found → (made ≡ syntax_of items) × (found ≡ stop) → errors ≡ errors_of items stop
errors_read errors made found items stop e same = e ∙ (λ i. all_errors (same.0 i) (same.1 i))

-- with another of its rules as the start it is as sound as before
without_first : (first more : Option GrammarError) → option_or first more ≡ None → more ≡ None
without_first None more e = e
without_first (Some error) more e = cc

-- all checks except that of the start
abbrev requested : Syntax → Option GrammarError
requested s =
    option_or (first_error (rule_error s) s.rules)
    (option_or (first_error (printed_error s) s.tables.printed_forms) (first_error (symbol_error s) s.expect_unused))

pub IsSound-restarted : (s : Syntax) (errors : List GrammarError) (word : Word) → IsSound s errors → has_rule word.name s.rules ≡ true → IsSound (started_at s word) errors
unfolding check_of
IsSound-restarted s errors word sound there = record {
  well_formed = record {
    rules_named = sound.well_formed.rules_named;
    rules_distinct = sound.well_formed.rules_distinct;
    tokens_distinct = sound.well_formed.tokens_distinct;
    production_rules_as_long = sound.well_formed.production_rules_as_long;
    production_rules_within = sound.well_formed.production_rules_within;
    productions_listed = sound.well_formed.productions_listed;
    spans_as_long = sound.well_formed.spans_as_long;
    directives_within = sound.well_formed.directives_within;
    implicit_are_tokens = sound.well_formed.implicit_are_tokens;
  };
  rules_are_names = sound.rules_are_names;
  checked = λ none. ap (λ known. option_or (if known then None else Some (error_at (InvalidStartRule word.name) word.span)) (requested s)) there
      ∙ without_first (start_error s s.start) (requested s) (sound.checked none);
}
