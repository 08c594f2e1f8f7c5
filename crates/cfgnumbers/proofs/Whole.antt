-- What a grammar refers to exists: its rules and tokens, and the symbols of its productions.
use Rattle.std.proofs.Common.{◌≡◌, ℕ, ◌+◌, ◌<◌, Bool, true, false, cond, List, [], ◌∷◌, length, get_or, Option, Some, None, All, option_map, refl, sym, subst, ◌∙◌, arith, ltb-true, ◌↔◌, ◌==◌, ◌≤◌, ◌++◌, map, slice_get, IfSome, ap}
use Rattle.cfgitems.specs.Syntax as file
use Rattle.std.specs.List.{zip}
use Rattle.std.specs.Option.{option_to_list}
use Rattle.std.specs.Str.{bytes_eq}
use Rattle.std.proofs.lemmas.List.Elements.{All-nil, All-cons, All-append, All-map}
use Rattle.std.proofs.lemmas.List.{length-map, map-append}
use Rattle.std.proofs.lemmas.Simd.{map-map}
use Rattle.std.proofs.lemmas.Option.{slice_get-map, slice_get-get_or}
use Rattle.std.proofs.lemmas.Slice.Zip.{firsts-zip}
use Rattle.lemmas.proofs.Positions.{found-position}
use Rattle.lemmas.proofs.Elements.{slice_get_push}
use Rattle.lemmas.proofs.Ended.{none_at_end}
use Rattle.lemmas.proofs.Passing.{positions_from-within}
use Rattle.lemmas.proofs.Zips.{All-zip}
use Rattle.cfgwords.specs.FileWords.{Word}
use Rattle.derivation.specs.Grammar.{Sym, Rule, Token, Grammar, IsSymbolOf}
use Rattle.cfgitems.proofs.Keeps.{All-flat_map}
use Rattle.cfgitems.specs.Building.{has_name, has_rule}
use Rattle.cfgitems.specs.Syntax.{Syntax, Production, Symbol, RuleSymbol, TokenSymbol}
use Rattle.cfgast.specs.Check.{symbol_error}
use Rattle.cfgerrors.specs.Errors.{GrammarError, UnknownRuleRef, UnknownToken, error_at}
use Rattle.cfgnumbers.specs.Numberable.{IsNumberable}
use Rattle.cfgbase.specs.declared.span.Span.{Span}
use Rattle.cfgast.specs.WellFormed.{IsWellFormed}
use Rattle.cfgnumbers.specs.Numbered.{NumberedProduction, rules_before, rule_index, token_index, file_symbol, file_symbols, spaced, start_symbols, added_production, added_productions, Numbered, core, production_core, numbered_by, file_production, file_token, end_token}
use Rattle.cfgnumbers.specs.Resolved.{AreTokens, IsResolved, Resolves}
use Rattle.cfgnumbers.proofs.Added.{All-added, rules_len, tokens_len}
use Rattle.cfgnumbers.specs.WellNumbered.{IsWhole}
use Rattle.cfgnumbers.specs.Accessors.{production_part, rule_part, token_part}
use Rattle.cfgnumbers.proofs.Listed.{owners, owners_are, owners_within, start_owner, lists_are}
use Rattle.cfgnumbers.proofs.RowLemmas.{name_shown}

none_wrong : (b : Bool) (e : GrammarError) → cond b None (Some e) ≡ None → b ≡ true
none_wrong true e h = refl
none_wrong false e h = let no : Some e ≡ None = h in cc

-- symbols of a grammar that has the rules and tokens of the file, and the added ones
module _ (s : Syntax) (resolved : IsResolved s) (g : Grammar) (tokens_are : g.tokens ≡ length s.tokens + 1) where
  rule_there : (implicit : Option (List (List ℕ))) (name : List ℕ) → g.rules ≡ rules_before implicit + length s.rules → has_rule name s.rules ≡ true → rule_index implicit s name < g.rules
  rule_there implicit name rules_are known =
      let index = ltb-true _ _ (found-position (λ (rule : List ℕ × file.Rule). bytes_eq name rule.0) s.rules ∙ known) in
      omega (arith, index, rules_are)

  token_there : (name : List ℕ) → has_name name s.tokens ≡ true → token_index s name + 1 < g.tokens
  token_there name known =
      let index = ltb-true _ _ (found-position (bytes_eq name) s.tokens ∙ known) in
      omega (arith, index, tokens_are)

  symbol_there : (implicit : Option (List (List ℕ))) (symbol : Symbol) → g.rules ≡ rules_before implicit + length s.rules → symbol_error s symbol ≡ None → IsSymbolOf g (file_symbol implicit s symbol)
  symbol_there implicit (RuleSymbol word) rules_are right = rule_there implicit word.name rules_are (none_wrong (has_rule word.name s.rules) (error_at (UnknownRuleRef word.name) word.span) right)
  symbol_there implicit (TokenSymbol word) rules_are right = token_there word.name (none_wrong (has_name word.name s.tokens) (error_at (UnknownToken word.name) word.span) right)

  spaced_there : (implicit : Option (List (List ℕ))) (symbol : Sym) → g.rules ≡ rules_before implicit + length s.rules → IsSymbolOf g symbol → All (IsSymbolOf g) (spaced implicit symbol)
  spaced_there implicit (Rule r) rules_are there = All-cons (IsSymbolOf g) (Rule r) [] there (All-nil (IsSymbolOf g))
  spaced_there None (Token t) rules_are there = All-cons (IsSymbolOf g) (Token t) [] there (All-nil (IsSymbolOf g))
  spaced_there (Some names) (Token t) rules_are there =
      All-cons (IsSymbolOf g) (Token t) (Rule 1 ∷ []) there (All-cons (IsSymbolOf g) (Rule 1) [] (omega (arith, rules_are)) (All-nil (IsSymbolOf g)))

  pub file_there : (implicit : Option (List (List ℕ))) (production : Production) → g.rules ≡ rules_before implicit + length s.rules → Resolves s production
      → All (IsSymbolOf g) (file_symbols implicit s production.symbols)
  file_there implicit production rules_are known =
      All-flat_map (IsSymbolOf g) (λ symbol. spaced implicit (file_symbol implicit s symbol)) production.symbols
      (λ k d within. spaced_there implicit (file_symbol implicit s (get_or production.symbols k d)) rules_are
      (symbol_there implicit (get_or production.symbols k d) rules_are (known k d within)))

  start_there : (implicit : Option (List (List ℕ))) → g.rules ≡ rules_before implicit + length s.rules → All (IsSymbolOf g) (start_symbols implicit s)
  start_there implicit rules_are =
      let start = resolved.start in
      subst (λ o. All (IsSymbolOf g) (option_to_list (option_map (λ (word : Word). Rule (rule_index implicit s word.name)) o))) (sym resolved.starts)
      (All-cons (IsSymbolOf g) (Rule (rule_index implicit s start.name)) [] (rule_there implicit start.name rules_are resolved.start_is_rule) (All-nil (IsSymbolOf g)))

  abbrev HasSymbols : NumberedProduction → Type 0
  HasSymbols production = All (IsSymbolOf g) production.symbols

  pub added_there : (implicit : Option (List (List ℕ))) → g.rules ≡ rules_before implicit + length s.rules → AreTokens s implicit → All HasSymbols (added_productions implicit s)
  added_there None rules_are tokens = All-cons HasSymbols (added_production 0 (start_symbols None s)) [] (start_there None rules_are) (All-nil HasSymbols)
  added_there (Some names) rules_are tokens =
      let rule : (r : ℕ) → r < 3 → (symbols : List Sym) → All (IsSymbolOf g) symbols → All (IsSymbolOf g) (Rule r ∷ symbols) =
      λ r added symbols rest. All-cons (IsSymbolOf g) (Rule r) symbols (omega (arith, rules_are, added)) rest in
      All-added HasSymbols names s (rule 2 (omega arith) [] (All-nil (IsSymbolOf g)))
      (λ k d within. All-cons (IsSymbolOf g) (Token (token_index s (get_or names k d))) (Rule 1 ∷ []) (token_there (get_or names k d) (tokens k d within))
      (rule 1 (omega arith) [] (All-nil (IsSymbolOf g))))
      (All-nil (IsSymbolOf g))
      (rule 1 (omega arith) (start_symbols (Some names) s) (start_there (Some names) rules_are))

abbrev some_name : List ℕ → Option (List ℕ)
some_name name = Some name

-- the rule for implicit tokens comes before those of the file
implicit_rule_within : (implicit : Option (List (List ℕ))) (n : ℕ) → rules_before implicit ≤ n → IfSome (option_map (λ names. 1) implicit) (λ r. r < n)
implicit_rule_within None n before = tt
implicit_rule_within (Some names) n before = omega (arith, before)

some_before : (implicit : Option (List (List ℕ))) → 0 < rules_before implicit
some_before None = omega arith
some_before (Some names) = omega arith

-- rule 0 has the production that comes after those of the file
start_lists : (implicit : Option (List (List ℕ))) (s : Syntax) → rule_part (λ rule. rule.productions) (numbered_by implicit s) 0 ≡ Some (length s.productions ∷ [])
unfolding numbered_by
start_lists None s = refl
start_lists (Some names) s = refl

module _ (implicit : Option (List (List ℕ))) (s : Syntax) (numberable : IsNumberable s) where
  abbrev g : Numbered
  g = numbered_by implicit s

  abbrev well : IsWellFormed s
  well = numberable.well_formed

  names_are : map name_shown (map (file_token s) (zip s.tokens s.spans) ++ end_token ∷ []) ≡ map Some s.tokens ++ None ∷ []
  names_are =
      map-append name_shown (map (file_token s) (zip s.tokens s.spans)) (end_token ∷ [])
      ∙ ap (λ ns. ns ++ None ∷ []) (map-map name_shown (file_token s) (zip s.tokens s.spans) ∙ sym (map-map Some (λ (row : List ℕ × Span). row.0) (zip s.tokens s.spans))
      ∙ ap (map Some) (firsts-zip s.tokens s.spans well.spans_as_long))

  end_at : (t : ℕ) → (token_part (λ token. token.name) g t ≡ Some None) ↔ (t + 1 ≡ length g.tokens)
  unfolding numbered_by
  end_at t =
      let names = ap (λ ns. slice_get ns t) (sym names_are) ∙ slice_get-map name_shown (map (file_token s) (zip s.tokens s.spans) ++ end_token ∷ []) t in (
        λ at. omega (arith, none_at_end s.tokens t (names ∙ at), tokens_len implicit s well),
        λ last. sym names ∙ slice_get_push (map Some s.tokens) None t (omega (arith, last, tokens_len implicit s well, length-map s.tokens some_name)),
      )

  symbols : AreTokens s implicit → All (λ p. All (IsSymbolOf (core g)) p.symbols) g.productions
  unfolding numbered_by
  symbols tokens =
      let pairs = zip s.production_rules s.productions in
      let known = All-zip (λ r. r < length s.rules) (Resolves s) s.production_rules s.productions well.production_rules_within numberable.resolved.symbols in
      let rules_are = rules_len implicit s well in
      let tokens_are = tokens_len implicit s well in
      All-append (λ p. All (IsSymbolOf (core g)) p.symbols) (map (file_production implicit s) pairs) (added_productions implicit s)
      (All-map (λ p. All (IsSymbolOf (core g)) p.symbols) (file_production implicit s) pairs
      (λ k d within. file_there s numberable.resolved (core g) tokens_are implicit (get_or pairs k d).1 rules_are (known k d within).1))
      (added_there s numberable.resolved (core g) tokens_are implicit rules_are tokens)

  lists : All (λ rule. All (λ p. p < length g.productions) rule.productions) g.rules
  lists k d within =
      let rule = get_or g.rules k d in
      let own = lists_are implicit s well k rule.productions (ap (option_map (λ rule. rule.productions)) (slice_get-get_or g.rules k d within)) in
      subst (All (λ p. p < length g.productions)) (sym own)
      (λ j e there. omega (
        arith,
        positions_from-within (λ owner. k == owner) 0 (owners implicit s.production_rules) j e there,
        ap length (owners_are implicit s well),
        length-map g.productions (λ (production : NumberedProduction). production.rule),
      ))

  start_rule_lists : rule_part (λ rule. rule.productions) g 0 ≡ Some (g.start_production ∷ [])
  unfolding numbered_by
  start_rule_lists = start_lists implicit s

  started : production_part (λ p. p.rule) g g.start_production ≡ Some 0
  unfolding numbered_by
  started = start_owner implicit s well

  implicit_rule_there : IfSome g.implicit_rule (λ r. r < length g.rules)
  unfolding numbered_by
  implicit_rule_there = implicit_rule_within implicit (length g.rules) (omega (arith, rules_len implicit s well))

  pub whole : AreTokens s implicit → IsWhole g
  whole tokens = record {
    start_rule = start_rule_lists;
    start_production = started;
    end_token = end_at;
    grammar = record {
      start = omega (arith, rules_len implicit s well, some_before implicit);
      finish = omega (arith, tokens_len implicit s well);
      owners = All-map (λ p. p.rule < length g.rules) production_core g.productions (owners_within implicit s well (length g.rules) (sym (rules_len implicit s well)));
      symbols = All-map (λ p. All (IsSymbolOf (core g)) p.symbols) production_core g.productions (symbols tokens);
    };
    implicit_rule = implicit_rule_there;
    lists = lists;
  }
