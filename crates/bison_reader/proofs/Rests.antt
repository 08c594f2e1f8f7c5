-- The numbers of the words that are left.
use Rattle.std.proofs.Common.{◌≡◌, ℕ, zero, suc, ◌<◌, ◌≤◌, ◌+◌, ◌-◌, false, List, [], ◌∷◌, length, refl, ap, ◌∙◌, arith}
use Rattle.bison_reader.specs.declared.group.Group.{Group}
use Rattle.bison_reader.specs.declared.sort.Sort.{Sort}
use Rattle.bison_reader.specs.FileGrammar.{numbers}
use Rattle.bison_reader.specs.Here.{next_word, is_of, is_here}

pub numbers_open : (next len : ℕ) → next < len → numbers next (len - next) ≡ next ∷ numbers (next + 1) (len - (next + 1))
numbers_open next len h = go (len - next) (len - (next + 1)) (omega (arith, h))
  where
    go : (n m : ℕ) → n ≡ suc m → numbers next n ≡ next ∷ numbers (next + 1) m
    go n m e = ap (numbers next) e ∙ ap (λ k. next ∷ numbers k m) (omega arith)

pub numbers_done : (next len : ℕ) → len ≤ next → numbers next (len - next) ≡ []
numbers_done next len h = let none : len - next ≡ 0 = omega (arith, h) in ap (numbers next) none

pub here_open : (words : List Sort) (group : Group) (next : ℕ) → next < length words
    → is_here words group (numbers next (length words - next)) ≡ is_of words group next
here_open words group next h = ap (is_here words group) (numbers_open next (length words) h)

pub here_done : (words : List Sort) (group : Group) (next : ℕ) → length words ≤ next
    → is_here words group (numbers next (length words - next)) ≡ false
here_done words group next h = ap (is_here words group) (numbers_done next (length words) h)

pub next_here : (words : List Sort) (next : ℕ) → next ≤ length words → next_word words (numbers next (length words - next)) ≡ next
next_here words next h = go (length words - next) refl
  where
    go : (count : ℕ) → length words - next ≡ count → next_word words (numbers next count) ≡ next
    go zero e = omega (arith, h, e)
    go (suc count) e = refl
