-- Unproductive rules among symbols.
use Rattle.std.proofs.Common.{◌≡◌, ℕ, ◌+◌, ◌<◌, List, [], ◌∷◌, ◌++◌, Contains, length, get_or, map, take, drop, inl, inr, sym, subst, ap, ◌∙◌}
use Rattle.std.proofs.lemmas.List.{drop_more, map-append, take-append-drop}
use Rattle.std.proofs.lemmas.List.Elements.{Contains-append_cases}
use Rattle.cfgrammar.proofs.Contained.{contains_one}
use Rattle.cfgrammar.specs.Grammar.{Sym, Rule}
use Rattle.cfgrammar.proofs.Turns.{more_taken}

module _ {A : Type 0} (f : A → Sym) (xs : List A) (n : ℕ) (x : A) (within : n < length xs) (is : x ≡ get_or xs n x) where
  -- what is true of each rule among the first symbols, and of the next one if it is a rule
  pub one_more_rule : (P : ℕ → Type 0) → ((q : ℕ) → Contains (map f (take n xs)) (Rule q) → P q) → ((q : ℕ) → f x ≡ Rule q → P q)
      → (q : ℕ) → Contains (map f (take (n + 1) xs)) (Rule q) → P q
  one_more_rule P before here q held =
      elim (Contains-append_cases (map f (take n xs)) (f x ∷ []) (Rule q) (subst (λ l. Contains l (Rule q)) (more_taken f xs n x within is) held)) [
        | inl earlier ↦ before q earlier
        | inr last ↦ here q (contains_one (f x) (Rule q) last)
      ]

  -- what is around a symbol
  pub around : map f xs ≡ map f (take n xs) ++ f x ∷ map f (drop (n + 1) xs)
  around =
      ap (map f) (sym (take-append-drop n xs) ∙ ap (λ l. take n xs ++ l) (drop_more xs n x within ∙ ap (λ y. y ∷ drop (n + 1) xs) (sym is)))
      ∙ map-append f (take n xs) (x ∷ drop (n + 1) xs)
