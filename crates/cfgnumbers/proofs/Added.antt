-- What is added to the rules and productions of a file, and how many there are in total.
use Rattle.std.proofs.Common.{ℕ, ◌≡◌, List, [], ◌∷◌, ◌++◌, length, map, All, Option, Some, None, refl, arith, ◌+◌}
use Rattle.std.specs.List.{zip}
use Rattle.std.proofs.lemmas.List.{length-map, length-append}
use Rattle.std.proofs.lemmas.List.Elements.{All-nil, All-cons, All-append, All-map, All-from_recursion}
use Rattle.std.proofs.lemmas.Slice.Zip.{length-zip}
use Rattle.derivation.specs.Grammar.{Sym, Rule}
use Rattle.cfgitems.specs.Syntax.{Syntax}
use Rattle.cfgast.specs.WellFormed.{IsWellFormed}
use Rattle.cfgnumbers.specs.Fits.{productions_after}
use Rattle.cfgnumbers.specs.Numbered.{NumberedRule, NumberedProduction, rules_before, start_symbols, start_name, implicit_name, implicit_start_name, added_rule, added_rules, added_production, added_productions, numbered_by, file_rule, file_production, file_token, end_token}
use Rattle.cfgnumbers.proofs.RowLemmas.{added_names, implicit_row}

pub added_rules_len : (implicit : Option (List (List ℕ))) (n : ℕ) → length (added_rules implicit n) ≡ rules_before implicit
added_rules_len None n = refl
added_rules_len (Some names) n = refl

pub added_names_are : (implicit : Option (List (List ℕ))) (n : ℕ) → map (λ rule. rule.name) (added_rules implicit n) ≡ added_names implicit
added_names_are None n = refl
added_names_are (Some names) n = refl

-- the productions after those that begin with an implicit token
abbrev pub after_implicit : List (List ℕ) → Syntax → List NumberedProduction
after_implicit names s = added_production 1 [] ∷ added_production 2 (Rule 1 ∷ start_symbols (Some names) s) ∷ []

pub added_productions_len : (implicit : Option (List (List ℕ))) (s : Syntax) → length (added_productions implicit s) ≡ productions_after implicit
added_productions_len None s = refl
added_productions_len (Some names) s = omega (arith, length-append (map (implicit_row s) names) (after_implicit names s), length-map names (implicit_row s))

pub All-added : (P : NumberedProduction → Type 0) (names : List (List ℕ)) (s : Syntax) → P (added_production 0 (Rule 2 ∷ [])) → All (λ name. P (implicit_row s name)) names
    → P (added_production 1 []) → P (added_production 2 (Rule 1 ∷ start_symbols (Some names) s)) → All P (added_productions (Some names) s)
All-added P names s first rows empty start =
    All-cons P (added_production 0 (Rule 2 ∷ [])) (map (implicit_row s) names ++ after_implicit names s) first
    (All-append P (map (implicit_row s) names) (after_implicit names s) (All-map P (implicit_row s) names rows)
    (All-cons P (added_production 1 []) (added_production 2 (Rule 1 ∷ start_symbols (Some names) s) ∷ []) empty (All-cons P (added_production 2 (Rule 1 ∷ start_symbols (Some names) s)) [] start (All-nil P))))

-- what is true of whatever is added
pub All-added_rules : (P : NumberedRule → Type 0) → ((name : List ℕ) (productions : List ℕ) → P (added_rule name productions)) → (implicit : Option (List (List ℕ))) (n : ℕ) → All P (added_rules implicit n)
All-added_rules P each None n = All-from_recursion P (added_rules None n) (each start_name (n ∷ []), tt)
All-added_rules P each (Some names) n = All-from_recursion P (added_rules (Some names) n) (each start_name _, (each implicit_name _, (each implicit_start_name _, tt)))

pub All-added_productions : (P : NumberedProduction → Type 0) → ((rule : ℕ) (symbols : List Sym) → P (added_production rule symbols)) → (implicit : Option (List (List ℕ))) (s : Syntax) → All P (added_productions implicit s)
All-added_productions P each None s = All-from_recursion P (added_productions None s) (each 0 (start_symbols None s), tt)
All-added_productions P each (Some names) s = All-added P names s (each 0 _) (λ k d within. each 1 _) (each 1 []) (each 2 _)

module _ (implicit : Option (List (List ℕ))) (s : Syntax) (well : IsWellFormed s) where
  pub rules_len : length (numbered_by implicit s).rules ≡ rules_before implicit + length s.rules
  unfolding numbered_by
  rules_len =
      let added = added_rules implicit (length s.productions) in
      omega (arith, length-append added (map file_rule s.rules), added_rules_len implicit (length s.productions), length-map s.rules file_rule)

  pub tokens_len : length (numbered_by implicit s).tokens ≡ length s.tokens + 1
  unfolding numbered_by
  tokens_len =
      let pairs = zip s.tokens s.spans in
      omega (arith, length-append (map (file_token s) pairs) (end_token ∷ []), length-map pairs (file_token s), length-zip s.tokens s.spans, well.spans_as_long)

  pub productions_len : length (numbered_by implicit s).productions ≡ length s.productions + productions_after implicit
  unfolding numbered_by
  productions_len =
      let pairs = zip s.production_rules s.productions in
      omega (arith, length-append (map (file_production implicit s) pairs) (added_productions implicit s), added_productions_len implicit s, length-map pairs (file_production implicit s), length-zip s.production_rules s.productions, well.production_rules_as_long)
