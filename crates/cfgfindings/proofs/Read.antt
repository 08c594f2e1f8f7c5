-- What is read of a grammar is what is shown of it, and of a production what derivations use.
use Rattle.std.proofs.Common.{◌≡◌, ℕ, ◌<◌, ◌≤◌, List, Option, Some, None, option_map, length, slice_get, refl, sym, subst, ap, ◌∙◌, arith}
use Rattle.std.proofs.lemmas.List.{get_or-map, length-map}
use Rattle.std.proofs.lemmas.List.Elements.{Contains-get_or}
use Rattle.std.proofs.lemmas.Option.{get_or_from_slice_get}
use Rattle.cfgrammar.specs.Grammar.{HasProduction, Production, Sym}
use Rattle.cfgrammar.specs.Openings.{nth_production}
use Rattle.cfgrammar.specs.Numbered.{Numbered, NumberedProduction, NumberedRule, NumberedToken, core, production_core}
use Rattle.cfgrammar.specs.Accessors.{production_part, rule_part, token_part}
use Rattle.cfgrammar.specs.WellNumbered.{IsWellNumbered}

-- a grammar that is seen as this one, and a number as this one
module _ (g h : Numbered) (view : h ≡ g) (n k : ℕ) (same : k ≡ n) {A : Type 0} (x : A) where
  pub rule_seen : (part : NumberedRule → A) → rule_part part h k ≡ Some x → rule_part part g n ≡ Some x
  rule_seen part read = let seen : rule_part part h k ≡ rule_part part g n = λ i. rule_part part (view i) (same i) in sym seen ∙ read

  pub token_seen : (part : NumberedToken → A) → token_part part h k ≡ Some x → token_part part g n ≡ Some x
  token_seen part read = let seen : token_part part h k ≡ token_part part g n = λ i. token_part part (view i) (same i) in sym seen ∙ read

  pub production_seen : (part : NumberedProduction → A) → production_part part h k ≡ Some x → production_part part g n ≡ Some x
  production_seen part read = let seen : production_part part h k ≡ production_part part g n = λ i. production_part part (view i) (same i) in sym seen ∙ read

at_most : (i n max : ℕ) → i < n → n ≤ max → i ≤ max
at_most i n max lt le = omega arith

pub production_there : (g : Numbered) (p : ℕ) → p < length (core g).productions → p < length g.productions
production_there g p there = subst (λ n. p < n) (length-map g.productions production_core) there

-- the numbers of productions and rules fit
pub production_fits : (max : ℕ) (g : Numbered) (p : ℕ) → IsWellNumbered max g → p < length (core g).productions → p ≤ max
production_fits max g p well there = at_most p _ max (production_there g p there) well.counted.productions

pub rule_fits : (max : ℕ) (g : Numbered) (r : ℕ) → IsWellNumbered max g → r < length g.rules → r ≤ max
rule_fits max g r well there = at_most r _ max there well.counted.rules

module _ (g : Numbered) (p : ℕ) (within : p < length g.productions) where
  part_read : {A : Type 0} (part : Production → A) (x : A) → production_part (λ production. part (production_core production)) g p ≡ Some x → part (nth_production (core g) p) ≡ x
  part_read part x read = go (slice_get g.productions p) refl read
    where
      go : (o : Option NumberedProduction) → slice_get g.productions p ≡ o → option_map (λ production. part (production_core production)) o ≡ Some x → part (nth_production (core g) p) ≡ x
      go None at is = let no : None ≡ Some x = is in cc
      go (Some production) at is =
          let same : part (production_core production) ≡ x = cc in
          ap part (get_or-map production_core g.productions p production _ within ∙ ap production_core (get_or_from_slice_get g.productions p production production at)) ∙ same

  pub rule_read : (rule : ℕ) → production_part (λ production. production.rule) g p ≡ Some rule → (nth_production (core g) p).rule ≡ rule
  rule_read rule read = part_read (λ production. production.rule) rule read

  pub symbols_read : (symbols : List Sym) → production_part (λ production. production.symbols) g p ≡ Some symbols → (nth_production (core g) p).symbols ≡ symbols
  symbols_read symbols read = part_read (λ production. production.symbols) symbols read

  pub has_read : HasProduction (core g) (nth_production (core g) p).rule (nth_production (core g) p).symbols
  has_read = Contains-get_or (core g).productions p _ (subst (λ n. p < n) (sym (length-map g.productions production_core)) within)
