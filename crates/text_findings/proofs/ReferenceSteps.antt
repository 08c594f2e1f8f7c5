-- Steps of the loops over references, and over the symbols before them.
use Rattle.std.proofs.Common.{◌≡◌, ℕ, ◌+◌, ◌<◌, ◌≤◌, cond, not, List, ◌∷◌, map, drop, length, get_or, Some, sym, ap, ◌∙◌, arith, below_more}
use Rattle.std.proofs.lemmas.List.{drop_more}
use Rattle.std.proofs.lemmas.List.Sums.{fold_more}
use Rattle.cfgrammar.specs.SyntaxView.{symbol_view}
use Rattle.cfgrammar.specs.AstSymbol.{Symbol}
use Rattle.text_findings.specs.References.{IsBeyond, after, is_rule_named, place_at, place_of, reference_at}

pub place_more : (name : List ℕ) (symbols : List Symbol) (i : ℕ) (symbol : Symbol) → i < length symbols → symbol ≡ get_or symbols i symbol
    → place_of name (map symbol_view (drop i symbols)) ≡ cond (not (is_rule_named name (symbol_view symbol))) (1 + place_of name (map symbol_view (drop (i + 1) symbols))) 0
place_more name symbols i symbol within is =
    ap (λ l. place_of name (map symbol_view l)) (drop_more symbols i symbol within)
    ∙ ap (λ s. place_of name (symbol_view s ∷ map symbol_view (drop (i + 1) symbols))) (sym is)

module _ (code : List ℕ) where
  pub place_after : (i : ℕ) → i < length code → place_at code (i + 1) ≡ after (place_at code i) (get_or code i 0)
  place_after i within = fold_more after _ code i 0 within

  module _ (limit : ℕ) where
    pub none_more : (i : ℕ) → ((number : ℕ) → reference_at code i ≡ Some number → limit < number → ⊥)
        → ((offset : ℕ) → offset < i → IsBeyond code limit offset → ⊥) → (offset : ℕ) → offset < i + 1 → IsBeyond code limit offset → ⊥
    none_more i not_here before =
        below_more (λ offset. IsBeyond code limit offset → ⊥) i before (λ beyond. not_here beyond.number beyond.is beyond.beyond)

    pub none_within : (i : ℕ) → length code ≤ i → ((offset : ℕ) → offset < i → IsBeyond code limit offset → ⊥)
        → (offset : ℕ) → IsBeyond code limit offset → ⊥
    none_within i all before offset beyond = before offset (omega (arith, all, beyond.within)) beyond
