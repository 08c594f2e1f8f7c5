-- `next` finds the next element if the text passes the test, and nothing else; a shorter text is left.
use Rattle.std.proofs.Common.{◌≡◌, ℕ, ◌<◌, Bool, true, false, cond, List, [], ◌∷◌, length, Option, Some, None, refl, ap, ap₂, sym, ◌∙◌, arith}
use Rattle.std.proofs.lemmas.Option.{some_pair_parts}
use Rattle.constructs.specs.WordKind.{IsFinder, IsShorter}
use Rattle.constructs.specs.Next.{IsNext, next}

module _ (test : List ℕ → Bool) where
  found : (n : ℕ) (text : List ℕ) (word : ℕ) (rest : List ℕ) → (t : Bool) → test (n ∷ text) ≡ t → cond {A = Option (ℕ × List ℕ)} t (Some (n, text)) None ≡ Some (word, rest)
      → IsNext test (n ∷ text) word rest
  found n text word rest true h e = let same = some_pair_parts n word text rest e in record { whole = ap₂ (λ x y. x ∷ y) same.0 same.1; passes = h }
  found n text word rest false h e = cc

  sound : (text : List ℕ) (word : ℕ) (rest : List ℕ) → next test text ≡ Some (word, rest) → IsNext test text word rest
  sound [] word rest e = cc
  sound (n ∷ text) word rest e = found n text word rest (test (n ∷ text)) refl e

  only : (text : List ℕ) (word : ℕ) (rest : List ℕ) → IsNext test text word rest → next test text ≡ Some (word, rest)
  only [] word rest h = let e = h.whole in cc
  only (n ∷ text) word rest h = let e = h.whole in
      ap (λ t. cond {A = Option (ℕ × List ℕ)} t (Some (n, text)) None) h.passes ∙ cc

  pub next_finder : IsFinder (IsNext test) (next test)
  next_finder = record { sound = sound; only = only }

  pub next_shorter : IsShorter (next test)
  next_shorter = record { less = λ text word rest e. omega (arith, ap length (sound text word rest e).whole) }
