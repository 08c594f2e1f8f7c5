-- A grammar fits exactly if the file leaves room for what is added to it.
use Rattle.std.proofs.Common.{◌≡◌, ℕ, ◌≤◌, List, [], ◌∷◌, ◌++◌, length, map, All, Option, Some, None, option_map, arith}
use Rattle.std.specs.List.{zip}
use Rattle.std.specs.Option.{option_to_list}
use Rattle.std.proofs.lemmas.List.Elements.{All-nil, All-cons, All-append, All-head, All-tail, All-weaker}
use Rattle.derivation.specs.Grammar.{Rule}
use Rattle.cfgwords.specs.FileWords.{Word}
use Rattle.cfgitems.specs.Syntax.{Syntax, Production}
use Rattle.cfgast.specs.WellFormed.{IsWellFormed}
use Rattle.cfgnumbers.specs.Numbered.{NumberedProduction, numbered_by, rule_index, rules_before, start_symbols, file_symbols, file_production, added_production, added_productions}
use Rattle.cfgnumbers.specs.Fits.{Fits, LeavesRoom}
use Rattle.cfgnumbers.proofs.Added.{All-added, rules_len, tokens_len, productions_len}

at_most_one : {A : Type 0} (o : Option A) → length (option_to_list o) ≤ 1
at_most_one None = omega arith
at_most_one (Some x) = omega arith

start_short : (implicit : Option (List (List ℕ))) (s : Syntax) → length (start_symbols implicit s) ≤ 1
start_short implicit s = at_most_one (option_map (λ (word : Word). Rule (rule_index implicit s word.name)) s.start)

-- if the added rules fit, so do the added productions
added_short : (implicit : Option (List (List ℕ))) (s : Syntax) → All (λ p. length p.symbols ≤ rules_before implicit) (added_productions implicit s)
added_short None s = All-cons (λ p. length p.symbols ≤ 1) (added_production 0 (start_symbols None s)) [] (start_short None s) (All-nil (λ p. length p.symbols ≤ 1))
added_short (Some names) s =
    All-added (λ p. length p.symbols ≤ 3) names s (omega arith) (λ k d within. omega arith) (omega arith) (omega (arith, start_short (Some names) s))

module _ (max : ℕ) (implicit : Option (List (List ℕ))) (s : Syntax) where
  abbrev IsShort : NumberedProduction → Type 0
  IsShort p = length p.symbols ≤ max

  abbrev HasRoom : Production → Type 0
  HasRoom p = length (file_symbols implicit s p.symbols) ≤ max

  counted : (rules : List ℕ) (ps : List Production) → All HasRoom ps → All IsShort (map (file_production implicit s) (zip rules ps))
  counted [] ps h = All-nil IsShort
  counted (r ∷ rules) [] h = All-nil IsShort
  counted (r ∷ rules) (p ∷ ps) h =
      All-cons IsShort (file_production implicit s (r, p)) _ (All-head HasRoom p ps h) (counted rules ps (All-tail HasRoom p ps h))

  uncounted : (rules : List ℕ) (ps : List Production) (rest : List NumberedProduction) → length rules ≡ length ps
      → All IsShort (map (file_production implicit s) (zip rules ps) ++ rest) → All HasRoom ps
  uncounted rules [] rest as_long h = All-nil HasRoom
  uncounted [] (p ∷ ps) rest as_long h = absurd (omega (arith, as_long))
  uncounted (r ∷ rules) (p ∷ ps) rest as_long h =
      All-cons HasRoom p ps (All-head IsShort (file_production implicit s (r, p)) _ h)
      (uncounted rules ps rest (omega (arith, as_long)) (All-tail IsShort (file_production implicit s (r, p)) _ h))

  all_counted : LeavesRoom max implicit s → All IsShort (numbered_by implicit s).productions
  unfolding numbered_by
  all_counted room = All-append IsShort (map (file_production implicit s) (zip s.production_rules s.productions)) (added_productions implicit s)
      (counted s.production_rules s.productions room.symbols)
      (All-weaker (λ p. length p.symbols ≤ rules_before implicit) IsShort (λ p short. omega (arith, short, room.rules)) (added_productions implicit s) (added_short implicit s))

  all_room : IsWellFormed s → All IsShort (numbered_by implicit s).productions → All HasRoom s.productions
  unfolding numbered_by
  all_room well = uncounted s.production_rules s.productions (added_productions implicit s) well.production_rules_as_long

  pub fits_from_room : IsWellFormed s → LeavesRoom max implicit s → Fits max (numbered_by implicit s)
  fits_from_room well room = record {
    rules = omega (arith, rules_len implicit s well, room.rules);
    tokens = omega (arith, tokens_len implicit s well, room.tokens);
    productions = omega (arith, productions_len implicit s well, room.productions);
    symbols = all_counted room;
  }

  pub room_from_fits : IsWellFormed s → Fits max (numbered_by implicit s) → LeavesRoom max implicit s
  room_from_fits well fits = record {
    rules = omega (arith, rules_len implicit s well, fits.rules);
    tokens = omega (arith, tokens_len implicit s well, fits.tokens);
    productions = omega (arith, productions_len implicit s well, fits.productions);
    symbols = all_room well fits.symbols;
  }
