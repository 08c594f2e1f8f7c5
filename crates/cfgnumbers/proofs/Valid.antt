-- A syntax that was read without errors can be numbered: every name refers to something that exists, and no rule has a
-- reserved name.
use Rattle.std.proofs.Common.{◌≡◌, ℕ, ◌<◌, Bool, true, false, cond, List, [], ◌∷◌, length, get_or, Option, Some, None, All, refl, sym, ap, ◌∙◌}
use Rattle.std.specs.Option.{option_or, option_and_then}
use Rattle.std.proofs.lemmas.List.Elements.{All-nil, All-cons, All-contains}
use Rattle.std.proofs.lemmas.Option.{slice_get-get_or}
use Rattle.cfgwords.specs.Bytes.{holds}
use Rattle.cfgwords.specs.FileWords.{Word}
use Rattle.cfgwords.specs.declared.bytes.ByteClass.TheVariants as bytes
use Rattle.cfgitems.specs.Building.{has_rule}
use Rattle.cfgitems.specs.Syntax.{Syntax, Production}
use Rattle.cfgast.specs.Check.{first_error, start_error, symbol_error, precedence_error, printed_error, production_error, locate_error, rule_error, check_of}
use Rattle.cfgerrors.specs.Errors.{GrammarError, InvalidStartRule, error_at}
use Rattle.cfgast.specs.Sound.{IsSound}
use Rattle.cfgnumbers.specs.Numberable.{IsNumberable}
use Rattle.cfgnumbers.specs.Resolved.{IsResolved}
use Rattle.cfgnumbers.proofs.Positions.{listed_somewhere}
use Rattle.cfgnumbers.proofs.ReservedNames.{name_free}

none_first : (a b : Option GrammarError) → option_or a b ≡ None → a ≡ None
none_first None b e = refl
none_first (Some x) b e = e

none_second : (a b : Option GrammarError) → option_or a b ≡ None → b ≡ None
none_second None b e = e
none_second (Some x) b e = let no : Some x ≡ None = e in cc

-- no element has an error
no_errors : {A : Type 0} (f : A → Option GrammarError) (xs : List A) → first_error f xs ≡ None → All (λ x. f x ≡ None) xs
no_errors f [] e = All-nil (λ x. f x ≡ None)
no_errors f (x ∷ xs) e = All-cons (λ x. f x ≡ None) x xs (none_first (f x) (first_error f xs) e) (no_errors f xs (none_second (f x) (first_error f xs) e))

-- the start exists, and is a rule
started : (s : Syntax) (o : Option Word) → start_error s o ≡ None → (word : Word) × (o ≡ Some word) × (has_rule word.name s.rules ≡ true)
started s None e = let no : Some _ ≡ None = e in cc
started s (Some word) e = (word, refl, known (has_rule word.name s.rules) refl e)
  where
    known : (b : Bool) → has_rule word.name s.rules ≡ b → cond b None (Some (error_at (InvalidStartRule word.name) word.span)) ≡ None → has_rule word.name s.rules ≡ true
    known true is e = is
    known false is e = let no : Some (error_at (InvalidStartRule word.name) word.span) ≡ None = e in cc

resolved : (s : Syntax) → IsSound s [] → IsResolved s
unfolding check_of
resolved s sound = record {
  start = start.0;
  starts = start.1;
  start_is_rule = start.2;
  symbols = λ i d within.
      let production = get_or s.productions i d in
      no_errors (symbol_error s) production.symbols
      (none_second (precedence_error s production.precedence) (first_error (symbol_error s) production.symbols) (production_ok i d within));
}
  where
    passes : check_of s ≡ None
    passes = sound.checked refl

    after_rules : Option GrammarError
    after_rules = option_or (first_error (printed_error s) s.tables.printed_forms) (first_error (symbol_error s) s.expect_unused)

    after_start : Option GrammarError
    after_start = option_or (first_error (rule_error s) s.rules) after_rules

    start : (word : Word) × (s.start ≡ Some word) × (has_rule word.name s.rules ≡ true)
    start = started s s.start (none_first (start_error s s.start) after_start passes)

    rules_ok : All (λ rule. rule_error s rule ≡ None) s.rules
    rules_ok = no_errors (rule_error s) s.rules (none_first (first_error (rule_error s) s.rules) after_rules
        (none_second (start_error s s.start) after_start passes))

    position_ok : (i : ℕ) → i < length s.productions → locate_error s i ≡ None
    position_ok i within =
        let (rule, at, listed) = listed_somewhere s sound.well_formed i within in
        let rule_ok : rule_error s rule ≡ None = All-contains (λ rule. rule_error s rule ≡ None) s.rules rule rules_ok at in
        All-contains (λ index. locate_error s index ≡ None) rule.1.productions i (no_errors (locate_error s) rule.1.productions rule_ok) listed

    production_ok : (i : ℕ) (d : Production) → i < length s.productions → production_error s (get_or s.productions i d) ≡ None
    production_ok i d within = sym (ap (option_and_then (production_error s)) (slice_get-get_or s.productions i d within)) ∙ position_ok i within

pub numberable : (s : Syntax) → IsSound s [] → IsNumberable s
numberable s sound = record {
  well_formed = sound.well_formed;
  names_free = λ k d within. name_free (holds bytes.NameStart) (get_or s.rules k d).0 (sound.rules_are_names k d within) refl refl;
  resolved = resolved s sound;
}
