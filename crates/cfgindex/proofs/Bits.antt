-- The union of lists of bits, bit by bit.
use Rattle.std.proofs.Common.{◌≡◌, ◌↔◌, ◌⊎◌, inl, inr, true, sym, ◌∙◌, ℕ, suc, zero, ◌||◌, Bool, false, List, [], ◌∷◌, map, length, get_or, arith, refl, ap}
use Rattle.std.specs.List.{zip}
use Rattle.std.proofs.lemmas.Bool.{or_cases, or_left, or_right}

-- each bit is on that is on in a or in b
abbrev pub union : List Bool → List Bool → List Bool
union a b = map (λ pair. pair.0 || pair.1) (zip a b)

pub length-union : (a b : List Bool) → length a ≡ length b → length (union a b) ≡ length a
length-union [] b e = refl
length-union (x ∷ a) [] e = absurd (omega (arith, e))
length-union (x ∷ a) (y ∷ b) e = ap suc (length-union a b (omega (arith, e)))

pub get_or-union : (a b : List Bool) → length a ≡ length b → (k : ℕ) → get_or (union a b) k false ≡ (get_or a k false || get_or b k false)
get_or-union [] [] e k = refl
get_or-union [] (y ∷ b) e k = absurd (omega (arith, e))
get_or-union (x ∷ a) [] e k = absurd (omega (arith, e))
get_or-union (x ∷ a) (y ∷ b) e zero = refl
get_or-union (x ∷ a) (y ∷ b) e (suc k) = get_or-union a b (omega (arith, e)) k

pub union_adds : (a b : List Bool) → length a ≡ length b → (k : ℕ) → (get_or (union a b) k false ≡ true) ↔ ((get_or a k false ≡ true) ⊎ (get_or b k false ≡ true))
union_adds a b e k = (
  (λ h. or_cases (get_or a k false) (get_or b k false) (sym (get_or-union a b e k) ∙ h)),
  (λ h. get_or-union a b e k ∙ elim h [ inl i ↦ or_left (get_or a k false) (get_or b k false) i | inr i ↦ or_right (get_or a k false) (get_or b k false) i ]),
)
