-- The symbols of a side exist.
use Rattle.std.proofs.Common.{ℕ, List, [], ◌∷◌, ◌++◌, All, get_or, map, sym, subst}
use Rattle.std.proofs.lemmas.List.Elements.{All-append, All-cons, All-drop, All-head, All-nil, All-tail, All-take}
use Rattle.cfgindex.specs.declared.idxnewtype.Symbol.{Symbol}
use Rattle.cfgindex.specs.declared.idxnewtype.Symbol.TheVariants as symbols
use Rattle.cfgrammar.specs.Accessors.{IsSymbolWithin}
use Rattle.cfgrammar.specs.Derivation.{Derives, Step, none, next}
use Rattle.cfgrammar.specs.Grammar.{Grammar, IsGrammar, IsSymbolOf, Sym, Rule}
use Rattle.cfgrammar.specs.Numbered.{Numbered, core}
use Rattle.cfgrammar.specs.NumberedSymbols.{sym_of}
use Rattle.cfgrammar.specs.Openings.{nth_production}
use Rattle.cfgrammar.proofs.Turns.{All-shown}
use Rattle.lr_states.specs.declared.Item.{Item}
use Rattle.lr_states.specs.Lookaheads.{HasUsed}
use Rattle.lr_states.proofs.Bounds.{symbols_within}
use Rattle.lr_conflicts.specs.Examples.{IsSide, prefix_of, rest_of}
use Rattle.lr_conflicts.specs.declared.examples.Side.{Side}
use Rattle.bison_findings.specs.Inner.Within.{AreSymbolsWithin}

module _ {A : Type 0} (P : A → Type 0) where
  All-front : (xs ys : List A) → All P (xs ++ ys) → All P xs
  All-front [] ys all = All-nil P
  All-front (x ∷ xs) ys all = All-cons P x xs (All-head P x (xs ++ ys) all) (All-front xs ys (All-tail P x (xs ++ ys) all))

  All-back : (xs ys : List A) → All P (xs ++ ys) → All P ys
  All-back [] ys all = all
  All-back (x ∷ xs) ys all = All-back xs ys (All-tail P x (xs ++ ys) all)

module _ (g : Grammar) (grammar : IsGrammar g) (Used : ℕ → Type 0) where
  abbrev Within : List Sym → Type 0
  Within = All (IsSymbolOf g)

  step_within : (a b : List Sym) → Step (HasUsed g Used) a b → Within a → Within b
  step_within a b s all =
      let whole = subst Within s.source all in
      let after = All-tail (IsSymbolOf g) (Rule s.rule) s.after (All-back (IsSymbolOf g) s.before (Rule s.rule ∷ s.after) whole) in
      subst Within (sym s.target) (All-append (IsSymbolOf g) s.before (s.symbols ++ s.after) (All-front (IsSymbolOf g) s.before (Rule s.rule ∷ s.after) whole)
      (All-append (IsSymbolOf g) s.symbols s.after (subst Within s.has.is (symbols_within g grammar s.has.index)) after))

  derived_within : {a b : List Sym} → Derives (HasUsed g Used) a b → Within a → Within b
  derived_within none all = all
  derived_within (next {a} {b} s d) all = derived_within d (step_within a b s all)

  module _ (item : Item) (side : Side) (is : IsSide g Used item side) where
    whole : Within (is.before ++ Rule (nth_production g item.production).rule ∷ is.after)
    whole = derived_within is.derived (All-cons (IsSymbolOf g) (Rule 0) [] grammar.start (All-nil (IsSymbolOf g)))

    pub prefix_within : Within (prefix_of side)
    prefix_within = subst Within (sym is.prefix) (All-append (IsSymbolOf g) is.before _
        (All-front (IsSymbolOf g) is.before (Rule (nth_production g item.production).rule ∷ is.after) whole)
        (All-take (IsSymbolOf g) item.read _ (symbols_within g grammar item.production)))

    pub rest_within : Within (rest_of side)
    rest_within = subst Within (sym is.rest) (All-append (IsSymbolOf g) _ is.after
        (All-drop (IsSymbolOf g) item.read _ (symbols_within g grammar item.production))
        (All-tail (IsSymbolOf g) (Rule (nth_production g item.production).rule) is.after
        (All-back (IsSymbolOf g) is.before (Rule (nth_production g item.production).rule ∷ is.after) whole)))

module _ (g : Numbered) where
  one_within : (symbol : Symbol ℕ) → IsSymbolOf (core g) (sym_of (λ s. s) symbol) → IsSymbolWithin (λ s. s) g symbol
  one_within (symbols.Rule r) within = within
  one_within (symbols.Token t) within = within

  held_within : (held : List (Symbol ℕ)) → All (IsSymbolOf (core g)) (map (sym_of (λ s. s)) held) → All (IsSymbolWithin (λ s. s) g) held
  held_within held all = λ k d within. one_within (get_or held k d) (All-shown (IsSymbolOf (core g)) (sym_of (λ s. s)) held all k d within)

  pub side_within : IsGrammar (core g) → (Used : ℕ → Type 0) (item : Item) (side : Side) → IsSide (core g) Used item side → AreSymbolsWithin g side
  side_within grammar Used item side is = record {
    prefix = held_within side.prefix.items (prefix_within (core g) grammar Used item side is);
    rest = held_within side.rest.items (rest_within (core g) grammar Used item side is);
  }
