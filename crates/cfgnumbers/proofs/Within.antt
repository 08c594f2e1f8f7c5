-- Every index in a grammar's tables refers to something that exists.
use Rattle.std.proofs.Common.{◌≡◌, ℕ, ◌<◌, Bool, List, [], ◌∷◌, map, position, length, get_or, slice_get, Some, None, All, IfSome, option_map, subst, ◌∙◌}
use Rattle.std.proofs.lemmas.List.{length-map}
use Rattle.std.proofs.lemmas.List.Elements.{All-map}
use Rattle.std.proofs.lemmas.List.Quantifiers.{position-Some}
use Rattle.std.proofs.lemmas.Option.{slice_get-map, slice_get_within}
use Rattle.lemmas.proofs.Options.{All-slice_get}
use Rattle.derivation.specs.Grammar.{Sym, IsSymbolOf}
use Rattle.cfgindex.specs.declared.idxnewtype.Symbol.{Symbol}
use Rattle.cfgindex.specs.declared.idxnewtype.Symbol.TheVariants as symbols
use Rattle.cfgtables.specs.NumberedSymbols.{sym_of}
use Rattle.cfgnumbers.specs.Numbered.{Numbered, NumberedProduction, NumberedRule, core, production_core}
use Rattle.cfgnumbers.specs.WellNumbered.{IsWhole, IsWellNumbered}
use Rattle.cfgnumbers.specs.Accessors.{IsSymbolWithin, production_part, rule_part}
use Rattle.cfgnumbers.proofs.Turns.{All-shown}

-- what is true of this part of each element is true of one that is read
part_holds : {A B : Type 0} (P : B → Type 0) (part : A → B) (xs : List A) (i : ℕ) (y : B) → All (λ x. P (part x)) xs → option_map part (slice_get xs i) ≡ Some y → P y
part_holds P part xs i y all at = subst (λ o. IfSome o P) (slice_get-map part xs i ∙ at) (All-slice_get P (map part xs) i (All-map P part xs all))

-- a part that is read is that of an element that exists
pub part_within : {A B : Type 0} (part : A → B) (xs : List A) (i : ℕ) (y : B) → option_map part (slice_get xs i) ≡ Some y → i < length xs
part_within part xs i y at = subst (λ n. i < n) (length-map xs part) (slice_get_within (map part xs) i y (slice_get-map part xs i ∙ at))

pub record RefersWithin (g : Numbered) : Type 0 where
  pub start_rule : 0 < length g.rules
  pub start_production : g.start_production < length g.productions
  pub owner : (p r : ℕ) → production_part (λ x. x.rule) g p ≡ Some r → r < length g.rules
  pub symbols : (p : ℕ) (held : List Sym) → production_part (λ x. x.symbols) g p ≡ Some held → All (IsSymbolOf (core g)) held
  pub listed : (r : ℕ) (held : List ℕ) → rule_part (λ x. x.productions) g r ≡ Some held → All (λ p. p < length g.productions) held

refers_within : (g : Numbered) → IsWhole g → RefersWithin g
refers_within g is = record {
  start_rule = is.grammar.start;
  start_production = part_within (λ (x : NumberedProduction). x.rule) g.productions g.start_production 0 is.start_production;
  owner = λ p r at. part_holds (λ r. r < length g.rules) (λ (x : NumberedProduction). x.rule) g.productions p r
      (All-shown (λ x. x.rule < length g.rules) production_core g.productions is.grammar.owners) at;
  symbols = λ p held at. part_holds (All (IsSymbolOf (core g))) (λ (x : NumberedProduction). x.symbols) g.productions p held
      (All-shown (λ x. All (IsSymbolOf (core g)) x.symbols) production_core g.productions is.grammar.symbols) at;
  listed = λ r held at. part_holds (All (λ p. p < length g.productions)) (λ (x : NumberedRule). x.productions) g.rules r held is.lists at;
}

-- for tables, as a grammar shows them
pub refers : (max : ℕ) (shown g : Numbered) → IsWellNumbered max shown → shown ≡ g → RefersWithin g
refers max shown g is same = refers_within g (subst IsWhole same is.whole)

-- the symbols of a production, as the code has them
pub symbols_within : {S : Type 0} (number : S → ℕ) (g : Numbered) (held : List (Symbol S)) → All (IsSymbolOf (core g)) (map (sym_of number) held) → All (IsSymbolWithin number g) held
symbols_within {S} number g held all = λ k d within. go (get_or held k d) (All-shown (IsSymbolOf (core g)) (sym_of number) held all k d within)
  where
    go : (symbol : Symbol S) → IsSymbolOf (core g) (sym_of number symbol) → IsSymbolWithin number g symbol
    go (symbols.Rule ridx) within = within
    go (symbols.Token tidx) within = within

-- the productions of a rule, as the code has them
pub listed_within : {I : Type 0} (number : I → ℕ) (g : Numbered) (held : List I) → All (λ p. p < length g.productions) (map number held) → All (λ p. number p < length g.productions) held
listed_within number g held = All-shown (λ p. p < length g.productions) number held

-- an index that is found is an index of the list
pub position_within : {A : Type 0} (test : A → Bool) (xs : List A) (i : ℕ) → position test xs ≡ Some i → i < length xs
position_within test [] i at = let no : None ≡ Some i = at in cc
position_within test (x ∷ xs) i at = (position-Some test (x ∷ xs) i x at).0
