-- The first elements of a list, and one more.
use Rattle.std.proofs.Common.{◌≡◌, ◌↔◌, ◌⊎◌, inl, inr, ℕ, ◌+◌, ◌<◌, Contains, subst, List, [], ◌∷◌, ◌++◌, length, take, get_or, slice_get, Option, Some, None, option_map, refl, sym, ap, ◌∙◌, arith}
use Rattle.std.specs.List.{flat_map, enumerate_from}
use Rattle.std.proofs.lemmas.List.{take_more, flat_map_more}
use Rattle.std.proofs.lemmas.List.Elements.{Contains-append_left, Contains-push, Contains-push_cases}
use Rattle.std.proofs.lemmas.List.FromFn.{length-enumerate_from, get_or-enumerate_from}
use Rattle.std.proofs.lemmas.Option.{slice_get_within, get_or_from_slice_get}

-- what is among them, or is the next one
pub contains_taken : {A : Type 0} (xs : List A) (n : ℕ) (x : A) → n < length xs → x ≡ get_or xs n x → (y : A) → Contains (take (n + 1) xs) y ↔ (Contains (take n xs) y ⊎ (y ≡ x))
contains_taken xs n x lt is y = subst (λ l. Contains l y ↔ (Contains (take n xs) y ⊎ (y ≡ x))) (sym (take_more xs n x lt ∙ ap (λ z. take n xs ++ z ∷ []) (sym is))) (
  (λ h. elim (Contains-push_cases (take n xs) x y h) [ inl i ↦ inl i | inr e ↦ inr (sym e) ]),
  (λ h. elim h [
    | inl i ↦ Contains-append_left (take n xs) (x ∷ []) y i
    | inr e ↦ subst (Contains (take n xs ++ x ∷ [])) (sym e) (Contains-push (take n xs) x)
  ]),
)

-- what each gives, joined, and what the next gives
pub one_more : {A : Type 0} (line : A → List ℕ) (xs : List A) (n : ℕ) (x : A) → n < length xs → get_or xs n x ≡ x
    → flat_map line (take n xs) ++ line x ≡ flat_map line (take (n + 1) xs)
one_more line xs n x within at =
    flat_map_more line [] (take n xs) x
    ∙ ap (λ e. flat_map line (take n xs ++ e ∷ [])) (sym at)
    ∙ sym (ap (flat_map line) (take_more xs n x within))

-- the element that is shown at an index
shown_there : {A : Type 0} (text : A → List ℕ) (o : Option A) (shown : List ℕ) → option_map text o ≡ Some shown → (x : A) × (o ≡ Some x) × (text x ≡ shown)
shown_there text None shown e = let no : None ≡ Some shown = e in cc
shown_there text (Some x) shown e = let same : Some (text x) ≡ Some shown = e in (x, refl, cc)

-- the same with indices, if the text of the next one is shown
pub one_more_shown : {A : Type 0} (line : ℕ × A → List ℕ) (xs : List A) (n : ℕ) (text : List ℕ) → option_map (λ x. line (n, x)) (slice_get xs n) ≡ Some text
    → flat_map line (take n (enumerate_from 0 xs)) ++ text ≡ flat_map line (take (n + 1) (enumerate_from 0 xs))
one_more_shown {A = A} line xs n text shown =
    let (x, there, same) = shown_there (λ x. line (n, x)) (slice_get xs n) text shown in
    let within : n < length xs = slice_get_within xs n x there in
    let counted = enumerate_from 0 xs in
    let inside : n < length counted = omega (arith, within, length-enumerate_from 0 xs) in
    let at : get_or counted n (n, x) ≡ (n, x) =
    get_or-enumerate_from 0 xs n (n, x) within
    ∙ ap (λ k. (k, get_or xs n x)) (omega arith)
    ∙ ap (λ (y : A). (n, y)) (get_or_from_slice_get xs n x x there) in
    ap (λ t. flat_map line (take n counted) ++ t) (sym same) ∙ one_more line counted n (n, x) inside at
