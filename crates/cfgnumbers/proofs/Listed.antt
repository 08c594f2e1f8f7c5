-- Each production of a grammar is in the list of the rule that owns it exactly once, and in no other.
use Rattle.std.proofs.Common.{ℕ, ◌+◌, ◌<◌, ◌≡◌, List, [], ◌∷◌, ◌++◌, length, map, slice_get, All, Option, Some, None, refl, sym, ap, subst, ◌∙◌, arith, zero, suc, ◌==◌, Bool, true, false, cond, get_or, option_map, append-nil, ◌≢◌, nat_eq, count_by, if◌then◌else◌, eq-eqb}
use Rattle.cfgitems.specs.Syntax as file
use Rattle.std.specs.List.{zip, range_with_len}
use Rattle.std.specs.Option.{option_map_or}
use Rattle.std.proofs.lemmas.List.{length-map, map-append}
use Rattle.std.proofs.lemmas.List.Elements.{All-nil, All-cons, All-append, All-head, All-map, All-tail, All-weaker}
use Rattle.std.proofs.lemmas.Option.{slice_get-map}
use Rattle.std.proofs.lemmas.Simd.{map-map}
use Rattle.std.proofs.lemmas.Slice.Zip.{firsts-zip}
use Rattle.std.proofs.lemmas.Bool.{ne_eqb}
use Rattle.std.proofs.lemmas.Bool.Decides.{nat_tests}
use Rattle.std.proofs.lemmas.List.Sums.{sum_by-cons}
use Rattle.lemmas.specs.Lists.{positions, positions_from}
use Rattle.lemmas.proofs.Passing.{positions-map, positions-same}
use Rattle.cfgitems.specs.Syntax.{Syntax, Production}
use Rattle.cfgast.specs.WellFormed.{IsWellFormed}
use Rattle.cfgnumbers.specs.Numbered.{NumberedProduction, rules_before, file_production, added_productions, numbered_by, NumberedRule, added_rules, file_rule}
use Rattle.cfgnumbers.specs.Accessors.{production_part, rule_part}
use Rattle.cfgnumbers.proofs.Added.{after_implicit}
use Rattle.cfgnumbers.proofs.RowLemmas.{implicit_row}
use Rattle.cfgnumbers.proofs.Turns.{All-shown}
use Rattle.cfgnumbers.specs.WellNumbered.{ListsEachOnce}

abbrev owner_of : NumberedProduction → ℕ
owner_of production = production.rule

-- rule 1 owns a production for each implicit token, and the empty one
abbrev pub implicit_owners : List (List ℕ) → List ℕ
implicit_owners names = map (λ name. 1) names ++ 1 ∷ 2 ∷ []

abbrev pub added_owners : Option (List (List ℕ)) → List ℕ
added_owners None = 0 ∷ []
added_owners (Some names) = 0 ∷ implicit_owners names

added_owners_are : (implicit : Option (List (List ℕ))) (s : Syntax) → map owner_of (added_productions implicit s) ≡ added_owners implicit
added_owners_are None s = refl
added_owners_are (Some names) s =
    ap (λ owners. 0 ∷ owners) (map-append owner_of (map (implicit_row s) names) (after_implicit names s)
    ∙ ap (λ owners. owners ++ 1 ∷ 2 ∷ []) (map-map owner_of (implicit_row s) names))

-- each comes before the rules of the file
pub added_owners_before : (implicit : Option (List (List ℕ))) → All (λ r. r < rules_before implicit) (added_owners implicit)
added_owners_before None = All-cons (λ r. r < 1) 0 [] (omega arith) (All-nil (λ r. r < 1))
added_owners_before (Some names) =
    All-cons (λ r. r < 3) 0 (implicit_owners names) (omega arith)
    (All-append (λ r. r < 3) (map (λ name. 1) names) (1 ∷ 2 ∷ []) (All-map (λ r. r < 3) (λ name. 1) names (λ k d within. omega arith))
    (All-cons (λ r. r < 3) 1 (2 ∷ []) (omega arith) (All-cons (λ r. r < 3) 2 [] (omega arith) (All-nil (λ r. r < 3)))))

-- the first added production is rule 0's
start_at : (implicit : Option (List (List ℕ))) (xs : List ℕ) → slice_get (xs ++ added_owners implicit) (length xs) ≡ Some 0
start_at None [] = refl
start_at (Some names) [] = refl
start_at None (x ∷ xs) = start_at None xs
start_at (Some names) (x ∷ xs) = start_at (Some names) xs

-- the owners of all productions, if these rules of the file own its productions
abbrev pub file_owners : Option (List (List ℕ)) → List ℕ → List ℕ
file_owners implicit rules = map (λ r. rules_before implicit + r) rules

abbrev pub owners : Option (List (List ℕ)) → List ℕ → List ℕ
owners implicit rules = file_owners implicit rules ++ added_owners implicit

module _ (implicit : Option (List (List ℕ))) (s : Syntax) (well : IsWellFormed s) where
  pub file_owners_len : length (file_owners implicit s.production_rules) ≡ length s.productions
  file_owners_len = length-map s.production_rules (λ r. rules_before implicit + r) ∙ well.production_rules_as_long

  pub owners_are : map (λ production. production.rule) (numbered_by implicit s).productions ≡ owners implicit s.production_rules
  unfolding numbered_by
  owners_are =
      map-append owner_of (map (file_production implicit s) (zip s.production_rules s.productions)) (added_productions implicit s)
      ∙ (λ i. file i ++ added_owners_are implicit s i)
    where
      file : map owner_of (map (file_production implicit s) (zip s.production_rules s.productions)) ≡ file_owners implicit s.production_rules
      file =
          let pairs = zip s.production_rules s.productions in
          map-map owner_of (file_production implicit s) pairs ∙ sym (map-map (λ r. rules_before implicit + r) (λ (pair : ℕ × Production). pair.0) pairs)
          ∙ ap (map (λ r. rules_before implicit + r)) (firsts-zip s.production_rules s.productions (sym well.production_rules_as_long))

  pub owner_at : (p : ℕ) → production_part (λ x. x.rule) (numbered_by implicit s) p ≡ slice_get (owners implicit s.production_rules) p
  owner_at p = sym (slice_get-map owner_of (numbered_by implicit s).productions p) ∙ ap (λ rules. slice_get rules p) owners_are

  pub start_owner : production_part (λ x. x.rule) (numbered_by implicit s) (length s.productions) ≡ Some 0
  start_owner =
      owner_at (length s.productions) ∙ ap (slice_get (owners implicit s.production_rules)) (sym file_owners_len)
      ∙ start_at implicit (file_owners implicit s.production_rules)

  -- each is a rule of the grammar
  pub owners_within : (n : ℕ) → rules_before implicit + length s.rules ≡ n → All (λ p. p.rule < n) (numbered_by implicit s).productions
  owners_within n is =
      All-shown (λ r. r < n) owner_of (numbered_by implicit s).productions
      (subst (All (λ r. r < n)) (sym owners_are)
      (All-append (λ r. r < n) (file_owners implicit s.production_rules) (added_owners implicit)
      (All-map (λ r. r < n) (λ r. rules_before implicit + r) s.production_rules (λ k d within. omega (arith, is, well.production_rules_within k d within)))
      (All-weaker (λ r. r < rules_before implicit) (λ r. r < n) (λ r before. omega (arith, is, before)) (added_owners implicit) (added_owners_before implicit))))

positions_from-append : {A : Type 0} (test : A → Bool) (i : ℕ) (xs ys : List A) → positions_from i test (xs ++ ys) ≡ positions_from i test xs ++ positions_from (i + length xs) test ys
positions_from-append test i [] ys = ap (λ j. positions_from j test ys) (omega arith)
positions_from-append test i (x ∷ xs) ys =
    ap (λ others. cond (test x) (i ∷ others) others) (positions_from-append test (i + 1) xs ys)
    ∙ kept (test x) (positions_from (i + 1) test xs) (positions_from (i + 1 + length xs) test ys)
    ∙ ap (λ j. positions_from i test (x ∷ xs) ++ positions_from j test ys) (omega arith)
  where
    kept : (b : Bool) (prefix rest : List ℕ) → cond b (i ∷ (prefix ++ rest)) (prefix ++ rest) ≡ cond b (i ∷ prefix) prefix ++ rest
    kept true prefix rest = refl
    kept false prefix rest = refl

positions_from-none : {A : Type 0} (test : A → Bool) (i : ℕ) (xs : List A) → All (λ x. test x ≡ false) xs → positions_from i test xs ≡ []
positions_from-none test i [] none = refl
positions_from-none test i (x ∷ xs) none =
    ap (λ b. cond b (i ∷ positions_from (i + 1) test xs) (positions_from (i + 1) test xs)) (All-head (λ x. test x ≡ false) x xs none)
    ∙ positions_from-none test (i + 1) xs (All-tail (λ x. test x ≡ false) x xs none)

-- the numbers of the added rules' productions
start_positions : (i : ℕ) (names : List (List ℕ)) → positions_from i (λ owner. 0 == owner) (implicit_owners names) ≡ []
start_positions i [] = refl
start_positions i (name ∷ names) = start_positions (i + 1) names

implicit_positions : (i : ℕ) (names : List (List ℕ)) → positions_from i (λ owner. 1 == owner) (implicit_owners names) ≡ range_with_len i (length names + 1)
implicit_positions i [] = refl
implicit_positions i (name ∷ names) =
    let long : suc (length names + 1) ≡ length (name ∷ names) + 1 = omega arith in
    ap (λ others. i ∷ others) (implicit_positions (i + 1) names) ∙ ap (range_with_len i) long

implicit_start_positions : (i : ℕ) (names : List (List ℕ)) → positions_from i (λ owner. 2 == owner) (implicit_owners names) ≡ (i + length names + 1) ∷ []
implicit_start_positions i [] = ap (λ j. j ∷ []) (omega arith)
implicit_start_positions i (name ∷ names) = implicit_start_positions (i + 1) names ∙ ap (λ j. j ∷ []) (omega arith)

-- the numbers of the productions that a rule owns
abbrev pub own_positions : Option (List (List ℕ)) → Syntax → ℕ → List ℕ
own_positions implicit s r = positions (λ owner. r == owner) (owners implicit s.production_rules)

module _ (implicit : Option (List (List ℕ))) (s : Syntax) (well : IsWellFormed s) where
  after_file : (r : ℕ) → own_positions implicit s r
      ≡ positions (λ owner. r == owner) (file_owners implicit s.production_rules) ++ positions_from (length s.productions) (λ owner. r == owner) (added_owners implicit)
  after_file r =
      let test : ℕ → Bool = λ owner. r == owner in
      positions_from-append test 0 (file_owners implicit s.production_rules) (added_owners implicit)
      ∙ ap (λ i. positions test (file_owners implicit s.production_rules) ++ positions_from i test (added_owners implicit)) (omega (arith, file_owners_len implicit s well))

  own_of_added : (r : ℕ) → r < rules_before implicit → own_positions implicit s r ≡ positions_from (length s.productions) (λ owner. r == owner) (added_owners implicit)
  own_of_added r before =
      let apart : (x : ℕ) → (r == rules_before implicit + x) ≡ false = λ x. ne_eqb r (rules_before implicit + x) (λ e. omega arith) in
      after_file r ∙ ap (λ prefix. prefix ++ positions_from (length s.productions) (λ owner. r == owner) (added_owners implicit))
      (positions-map (λ owner. r == owner) (λ x. rules_before implicit + x) s.production_rules
      ∙ positions_from-none (λ x. r == rules_before implicit + x) 0 s.production_rules (λ k d within. apart (get_or s.production_rules k d)))

  own_of_file : (r : ℕ) → own_positions implicit s (rules_before implicit + r) ≡ positions (λ other. r == other) s.production_rules
  own_of_file r =
      let n = rules_before implicit in
      let same : (x : ℕ) → (n + r == n + x) ≡ (r == x) = λ x. grind (arith, nat_tests) in
      let file = positions-map (λ owner. n + r == owner) (λ x. n + x) s.production_rules
      ∙ positions-same (λ x. n + r == n + x) (λ x. r == x) s.production_rules (λ k d within. same (get_or s.production_rules k d)) in
      let none = positions_from-none (λ owner. n + r == owner) (length s.productions) (added_owners implicit)
      (λ k d within. ne_eqb (n + r) (get_or (added_owners implicit) k d) (λ e. omega (arith, e, added_owners_before implicit k d within))) in
      after_file (n + r) ∙ (λ i. file i ++ none i) ∙ append-nil (positions (λ other. r == other) s.production_rules)

  listed_in_file : (r : ℕ) (listed : List ℕ) → option_map (λ rule. rule.productions) (slice_get (map file_rule s.rules) r) ≡ Some listed → listed ≡ own_positions implicit s (rules_before implicit + r)
  listed_in_file r listed at = go (slice_get s.rules r) refl (ap (option_map (λ (rule : NumberedRule). rule.productions)) (sym (slice_get-map file_rule s.rules r)) ∙ at)
    where
      go : (o : Option (List ℕ × file.Rule)) → slice_get s.rules r ≡ o → option_map (λ rule. rule.productions) (option_map file_rule o) ≡ Some listed
          → listed ≡ own_positions implicit s (rules_before implicit + r)
      go None found none = let no : None ≡ Some listed = none in cc
      go (Some rule) found some =
          let is : rule.1.productions ≡ listed = cc in
          sym is ∙ well.productions_listed r rule found ∙ sym (own_of_file r)

-- for the rules before those of the file
own_listed : (implicit : Option (List (List ℕ))) (s : Syntax) → IsWellFormed s → (r : ℕ) (listed : List ℕ)
    → option_map (λ rule. rule.productions) (slice_get (added_rules implicit (length s.productions) ++ map file_rule s.rules) r) ≡ Some listed → listed ≡ own_positions implicit s r
own_listed None s well zero listed at =
    let is : length s.productions ∷ [] ≡ listed = cc in
    sym is ∙ sym (own_of_added None s well 0 (omega arith))
own_listed None s well (suc r) listed at = listed_in_file None s well r listed at ∙ ap (own_positions None s) (omega arith)
own_listed (Some names) s well zero listed at =
    let n = length s.productions in
    let is : n ∷ [] ≡ listed = cc in
    sym is ∙ ap (λ others. n ∷ others) (sym (start_positions (n + 1) names)) ∙ sym (own_of_added (Some names) s well 0 (omega arith))
own_listed (Some names) s well (suc zero) listed at =
    let n = length s.productions in
    let is : range_with_len (n + 1) (length names + 1) ≡ listed = cc in
    sym is ∙ sym (implicit_positions (n + 1) names) ∙ sym (own_of_added (Some names) s well 1 (omega arith))
own_listed (Some names) s well (suc (suc zero)) listed at =
    let n = length s.productions in
    let is : (n + length names + 2) ∷ [] ≡ listed = cc in
    sym is ∙ ap (λ j. j ∷ []) (omega arith) ∙ sym (implicit_start_positions (n + 1) names) ∙ sym (own_of_added (Some names) s well 2 (omega arith))
own_listed (Some names) s well (suc (suc (suc r))) listed at = listed_in_file (Some names) s well r listed at ∙ ap (own_positions (Some names) s) (omega arith)

pub lists_are : (implicit : Option (List (List ℕ))) (s : Syntax) → IsWellFormed s → (r : ℕ) (listed : List ℕ)
    → rule_part (λ x. x.productions) (numbered_by implicit s) r ≡ Some listed → listed ≡ own_positions implicit s r
unfolding numbered_by
lists_are implicit s well r listed at = own_listed implicit s well r listed at

-- how often a number is in a list with one more element at the start
pub counted_here : (n x : ℕ) (xs : List ℕ) → n ≡ x → count_by (nat_eq n) (x ∷ xs) ≡ count_by (nat_eq n) xs + 1
counted_here n x xs same =
    sum_by-cons (λ j. cond (nat_eq n j) 1 0) x xs ∙ ap (λ b. cond b 1 0 + count_by (nat_eq n) xs) (eq-eqb n x same) ∙ omega arith

pub counted_elsewhere : (n x : ℕ) (xs : List ℕ) → n ≢ x → count_by (nat_eq n) (x ∷ xs) ≡ count_by (nat_eq n) xs
counted_elsewhere n x xs apart =
    sum_by-cons (λ j. cond (nat_eq n j) 1 0) x xs ∙ ap (λ b. cond b 1 0 + count_by (nat_eq n) xs) (ne_eqb n x apart) ∙ omega arith

abbrev once_if : Bool → ℕ
once_if b = if b then 1 else 0

-- a number less than the first isn't among the indices
counted-before : {A : Type 0} (test : A → Bool) (n first : ℕ) (xs : List A) → n < first → count_by (nat_eq n) (positions_from first test xs) ≡ 0
counted-before test n first [] before = refl
counted-before {A} test n first (x ∷ xs) before = go (test x) (counted-before test n (first + 1) xs (omega arith))
  where
    others : List ℕ
    others = positions_from (first + 1) test xs

    go : (b : Bool) → count_by (nat_eq n) others ≡ 0 → count_by (nat_eq n) (cond b (first ∷ others) others) ≡ 0
    go true rest = counted_elsewhere n first others (λ e. omega arith) ∙ rest
    go false rest = rest

-- The index of an element that passes occurs once; that of an element that doesn't, or of none, not at all.
counted-positions_from : {A : Type 0} (test : A → Bool) (first i : ℕ) (xs : List A)
    → count_by (nat_eq (first + i)) (positions_from first test xs) ≡ option_map_or (λ x. once_if (test x)) (slice_get xs i) 0
counted-positions_from test first i [] = refl
counted-positions_from {A} test first zero (x ∷ xs) = go (test x) (counted-before test (first + 0) (first + 1) xs (omega arith))
  where
    others : List ℕ
    others = positions_from (first + 1) test xs

    go : (b : Bool) → count_by (nat_eq (first + 0)) others ≡ 0 → count_by (nat_eq (first + 0)) (cond b (first ∷ others) others) ≡ cond b 1 0
    go true rest = counted_here (first + 0) first others (omega arith) ∙ ap (λ n. n + 1) rest
    go false rest = rest
counted-positions_from {A} test first (suc i) (x ∷ xs) =
    go (test x) (ap (λ n. count_by (nat_eq n) others) (omega arith) ∙ counted-positions_from test (first + 1) i xs)
  where
    others : List ℕ
    others = positions_from (first + 1) test xs

    often : ℕ
    often = option_map_or (λ x. once_if (test x)) (slice_get xs i) 0

    go : (b : Bool) → count_by (nat_eq (first + suc i)) others ≡ often → count_by (nat_eq (first + suc i)) (cond b (first ∷ others) others) ≡ often
    go true rest = counted_elsewhere (first + suc i) first others (λ e. omega arith) ∙ rest
    go false rest = rest

pub listed_once : (implicit : Option (List (List ℕ))) (s : Syntax) → IsWellFormed s → ListsEachOnce (numbered_by implicit s)
listed_once implicit s well p owner r listed owned at =
    ap (count_by (nat_eq p)) (lists_are implicit s well r listed at) ∙ ap (λ n. count_by (nat_eq n) (own_positions implicit s r)) (omega arith)
    ∙ counted-positions_from (λ other. r == other) 0 p (owners implicit s.production_rules)
    ∙ ap (λ o. option_map_or (λ other. once_if (r == other)) o 0) (sym (owner_at implicit s well p) ∙ owned)
