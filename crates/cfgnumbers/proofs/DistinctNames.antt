-- Distinct names are found at their own index.
use Rattle.std.proofs.Common.{◌≡◌, ℕ, zero, suc, ◌+◌, not, false, cond, List, [], ◌∷◌, ◌++◌, length, map, filter_map, position, nat_lt, option_map, slice_get, Option, Some, None, refl, sym, ap, subst, ◌∙◌, append-nil, arith, lt-ltb}
use Rattle.std.specs.List.{cons_option, position_or_len, zip, AllByRecursion, IsDistinct}
use Rattle.std.specs.Option.{option_map_or}
use Rattle.std.specs.Str.{bytes_eq}
use Rattle.std.specs.Cmp.Lexicographic.{nat_list_eq_equiv}
use Rattle.std.proofs.lemmas.List.{map-append}
use Rattle.std.proofs.lemmas.List.Elements.{filter_map-append}
use Rattle.std.proofs.lemmas.Map.Keys.{IsDistinct-head, IsDistinct-tail}
use Rattle.std.proofs.lemmas.Option.{slice_get-map}
use Rattle.std.proofs.lemmas.Simd.{map-map}
use Rattle.std.proofs.lemmas.Slice.Zip.{firsts-zip}
use Rattle.cfgbase.specs.declared.span.Span.{Span}
use Rattle.cfgitems.specs.Syntax.{Syntax}
use Rattle.lemmas.proofs.Positions.{position-distinct, position-map}
use Rattle.cfgnumbers.specs.Numberable.{IsNumberable}
use Rattle.cfgnumbers.specs.Numbered.{Numbered, NumberedRule, NumberedToken, numbered_by, added_rules, file_rule, file_token, end_token}
use Rattle.cfgnumbers.specs.Accessors.{rule_part, token_part, has_token_name}
use Rattle.cfgnumbers.specs.WellNumbered.{HasDistinctNames}
use Rattle.cfgnumbers.proofs.Added.{added_names_are}
use Rattle.cfgnumbers.proofs.RowLemmas.{rule_names, rule_names-distinct, name_shown}
use Rattle.cfgnumbers.proofs.Within.{part_within}

-- what is true of the names of all tokens is true of one of them
name_holds : (P : List ℕ → Type 0) (tokens : List NumberedToken) (t : ℕ) (name : List ℕ)
    → AllByRecursion P (filter_map name_shown tokens) → option_map name_shown (slice_get tokens t) ≡ Some (Some name) → P name
name_holds P [] t name all at = let no : None ≡ Some (Some name) = at in cc
name_holds P (x ∷ xs) zero name all at = go x.name (cc) all
  where
    go : (o : Option (List ℕ)) → o ≡ Some name → AllByRecursion P (cons_option o (filter_map name_shown xs)) → P name
    go None is all = let no : None ≡ Some name = is in cc
    go (Some other) is all =
        let same : other ≡ name = cc in
        subst P same all.0
name_holds P (x ∷ xs) (suc t) name all at = go x.name all (λ rest. name_holds P xs t name rest at)
  where
    go : (o : Option (List ℕ)) → AllByRecursion P (cons_option o (filter_map name_shown xs)) → (AllByRecursion P (filter_map name_shown xs) → P name) → P name
    go None all further = further all
    go (Some other) all further = further all.1

-- Some tokens may have no name.
token_index : (tokens : List NumberedToken) (t : ℕ) (name : List ℕ) → IsDistinct bytes_eq (filter_map name_shown tokens)
    → option_map name_shown (slice_get tokens t) ≡ Some (Some name) → position_or_len (has_token_name name) tokens ≡ t
token_index [] t name distinct at = let no : None ≡ Some (Some name) = at in cc
token_index (x ∷ xs) zero name distinct at =
    let is : x.name ≡ Some name = cc in
    ap (λ o. cond (not (option_map_or (bytes_eq name) o false)) (1 + position_or_len (has_token_name name) xs) 0) is
    ∙ ap (λ b. cond (not b) (1 + position_or_len (has_token_name name) xs) 0) (nat_list_eq_equiv.refl name)
token_index (x ∷ xs) (suc t) name distinct at = go x.name distinct (λ rest. token_index xs t name rest at)
  where
    index : ℕ
    index = position_or_len (has_token_name name) xs

    go : (o : Option (List ℕ)) → IsDistinct bytes_eq (cons_option o (filter_map name_shown xs)) → (IsDistinct bytes_eq (filter_map name_shown xs) → index ≡ t)
        → cond (not (option_map_or (bytes_eq name) o false)) (1 + index) 0 ≡ suc t
    go None distinct further = omega (arith, further distinct)
    go (Some other) distinct further =
        let others = filter_map name_shown xs in
        let apart : bytes_eq name other ≡ false = nat_list_eq_equiv.symm name other
        ∙ name_holds (λ y. bytes_eq other y ≡ false) xs t name (IsDistinct-head bytes_eq other others distinct) at in
        let is : 1 + index ≡ suc t = omega (arith, further (IsDistinct-tail bytes_eq other others distinct)) in
        ap (λ b. cond (not b) (1 + index) 0) apart ∙ is

module _ (g : Numbered) (names : HasDistinctNames g) where
  pub rule_found : (r : ℕ) (name : List ℕ) → rule_part (λ rule. rule.name) g r ≡ Some name → position (λ rule. bytes_eq name rule.name) g.rules ≡ Some r
  rule_found r name at =
      sym (position-map (bytes_eq name) (λ (rule : NumberedRule). rule.name) g.rules)
      ∙ position-distinct nat_list_eq_equiv (map (λ rule. rule.name) g.rules) r name names.rules (slice_get-map (λ (rule : NumberedRule). rule.name) g.rules r ∙ at)

  pub token_found : (t : ℕ) (name : List ℕ) → token_part (λ token. token.name) g t ≡ Some (Some name) → position (has_token_name name) g.tokens ≡ Some t
  token_found t name at =
      ap (λ i. cond (nat_lt i (length g.tokens)) (Some i) None) (token_index g.tokens t name names.tokens at)
      ∙ ap (λ b. cond b (Some t) None) (lt-ltb t (length g.tokens) (part_within name_shown g.tokens t (Some name) at))

names_of_file : (s : Syntax) (rows : List (List ℕ × Span)) → filter_map name_shown (map (file_token s) rows) ≡ map (λ row. row.0) rows
names_of_file s [] = refl
names_of_file s (row ∷ rows) = ap (λ ns. row.0 ∷ ns) (names_of_file s rows)

module _ (implicit : Option (List (List ℕ))) (s : Syntax) (numberable : IsNumberable s) where
  rule_names_are : map (λ rule. rule.name) (numbered_by implicit s).rules ≡ rule_names implicit s
  unfolding numbered_by
  rule_names_are =
      let name_of : NumberedRule → List ℕ = λ rule. rule.name in
      map-append name_of (added_rules implicit (length s.productions)) (map file_rule s.rules)
      ∙ (λ i. added_names_are implicit (length s.productions) i ++ map-map name_of file_rule s.rules i)

  token_names_are : filter_map name_shown (numbered_by implicit s).tokens ≡ s.tokens
  unfolding numbered_by
  token_names_are =
      let rows = zip s.tokens s.spans in
      filter_map-append name_shown (map (file_token s) rows) (end_token ∷ []) ∙ append-nil _ ∙ names_of_file s rows ∙ firsts-zip s.tokens s.spans numberable.well_formed.spans_as_long

  pub distinct_names : HasDistinctNames (numbered_by implicit s)
  distinct_names = record {
    rules = subst (IsDistinct bytes_eq) (sym rule_names_are) (rule_names-distinct implicit s numberable);
    tokens = subst (IsDistinct bytes_eq) (sym token_names_are) numberable.well_formed.tokens_distinct;
  }
