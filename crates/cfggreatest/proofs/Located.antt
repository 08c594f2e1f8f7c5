-- Productions of a rule, by the list of their numbers.
use Rattle.std.proofs.Common.{◌≡◌, ℕ, ◌+◌, ◌<◌, ◌≤◌, List, [], length, get_or, arith, sym, ap, subst, ◌∙◌, below_more}
use Rattle.std.proofs.lemmas.List.{get_or_default}
use Rattle.derivation.specs.Grammar.{Sym, Grammar, Production, HasProduction}
use Rattle.cfgtables.specs.Openings.{nth_production, ArePositionsOf}
use Rattle.cfgtables.proofs.Located.{at_position}

module _ (g : Grammar) (rule : ℕ) (positions : List ℕ) (of : ArePositionsOf g rule positions) where
  pub located : (i n : ℕ) (a : List Sym) → i < length positions → n ≡ get_or positions i n → a ≡ (nth_production g n).symbols → HasProduction g rule a
  located i n a lt at e =
      let within : n < length g.productions = subst (λ m. m < length g.productions) (sym at) (of.within i n lt) in
      at_position g n (record { rule = rule; symbols = a }) within (sym ((of.listed n within).0 (i, lt, sym at))) e

  -- what is true of the productions with these numbers is true of those of the rule
  pub located_all : (F : List Sym → Type 0) (i : ℕ) → length positions ≤ i → ((k : ℕ) → k < i → F (nth_production g (get_or positions k 0)).symbols)
      → (symbols : List Sym) → HasProduction g rule symbols → F symbols
  located_all F i past all symbols has =
      let same = get_or_default g.productions has.0 (record { rule = 0; symbols = [] }) (record { rule = rule; symbols = symbols }) has.1 ∙ has.2 in
      let there = (of.listed has.0 has.1).1 (ap (λ (p : Production). p.rule) same) in
      let here = get_or_default positions there.0 0 has.0 there.1 ∙ there.2 in
      subst F (ap (λ (n : ℕ). (nth_production g n).symbols) here ∙ ap (λ (p : Production). p.symbols) same) (all there.0 (let lt = there.1 in omega (arith, lt, past)))

  -- one more production
  pub located_more : (F : List Sym → Type 0) (i n : ℕ) (a : List Sym) → i < length positions → n ≡ get_or positions i n → a ≡ (nth_production g n).symbols
      → ((k : ℕ) → k < i → F (nth_production g (get_or positions k 0)).symbols) → F a → (k : ℕ) → k < i + 1 → F (nth_production g (get_or positions k 0)).symbols
  located_more F i n a lt at e all here = below_more (λ k. F (nth_production g (get_or positions k 0)).symbols) i all
      (subst F (e ∙ ap (λ (m : ℕ). (nth_production g m).symbols) (at ∙ get_or_default positions i n 0 lt)) here)
