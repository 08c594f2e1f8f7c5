-- The element at an index, before and after a write.
use Rattle.std.proofs.Common.{◌≡◌, ℕ, zero, suc, ◌<◌, ◌⊎◌, inl, inr, List, [], ◌∷◌, ◌++◌, length, get_or, slice_get, slice_set, replicate, Some, refl, sym, ap, ◌∙◌, ⊎_elim, arith}
use Rattle.std.proofs.lemmas.Bool.{cases_lt}
use Rattle.std.proofs.lemmas.List.{get_or_past, set-get_or, get_or_push, length_push}
use Rattle.std.proofs.lemmas.Option.{get_or_from_slice_get, slice_get-get_or}

-- an element other than the default is in the list
pub within_from_get_or : {A : Type 0} (xs : List A) (i : ℕ) (d : A) → (get_or xs i d ≡ d → ⊥) → i < length xs
within_from_get_or xs i d other = ⊎_elim (λ within. within) (λ past. absurd (other (get_or_past xs i d past))) (cases_lt i (length xs))

pub get_or-replicate_default : {A : Type 0} (n i : ℕ) (d : A) → get_or (replicate n d) i d ≡ d
get_or-replicate_default zero i d = refl
get_or-replicate_default (suc n) zero d = refl
get_or-replicate_default (suc n) (suc i) d = get_or-replicate_default n i d

-- an element after a write is what it was, or what was written
pub get_or-set : {A : Type 0} (xs : List A) (i j : ℕ) (x d : A) → (get_or (slice_set xs i x) j d ≡ get_or xs j d) ⊎ ((j ≡ i) × (get_or (slice_set xs i x) j d ≡ x))
get_or-set [] i j x d = inl refl
get_or-set (y ∷ xs) zero zero x d = inr (refl, refl)
get_or-set (y ∷ xs) zero (suc j) x d = inl refl
get_or-set (y ∷ xs) (suc i) zero x d = inl refl
get_or-set (y ∷ xs) (suc i) (suc j) x d = elim (get_or-set xs i j x d) [ inl e ↦ inl e | inr h ↦ inr (ap suc h.0, h.1) ]

-- writing the element that is already there changes nothing
pub set-slice_get : {A : Type 0} (xs : List A) (i : ℕ) (x : A) → slice_get xs i ≡ Some x → slice_set xs i x ≡ xs
set-slice_get xs i x e = ap (slice_set xs i) (sym (get_or_from_slice_get xs i x x e)) ∙ set-get_or xs i x

-- the last of a list after a push
pub slice_get_push : {A : Type 0} (xs : List A) (x : A) (i : ℕ) → length xs ≡ i → slice_get (xs ++ x ∷ []) i ≡ Some x
slice_get_push xs x i end = slice_get-get_or (xs ++ x ∷ []) i x (omega (arith, length_push xs x)) ∙ ap Some (get_or_push xs x x i end)

pub element_at : {A : Type 0} (xs : List A) (i : ℕ) → i < length xs → (x : A) × (slice_get xs i ≡ Some x)
element_at [] i within = absurd (omega (arith, within))
element_at (x ∷ xs) zero within = (x, refl)
element_at (x ∷ xs) (suc i) within = element_at xs i (omega (arith, within))
