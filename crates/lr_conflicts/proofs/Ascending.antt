-- Numbers in ascending order, each of which something has.
use Rattle.std.proofs.Common.{◌≡◌, ℕ, ◌+◌, ◌<◌, inl, inr, List, [], ◌∷◌, ◌++◌, Contains, get_or, length, map, take, arith, sym, ap, ◌∙◌, subst}
use Rattle.std.specs.List.Sorted.{IsStrictlyIncreasing}
use Rattle.std.specs.Prelude.{slice_index}
use Rattle.std.proofs.lemmas.Bool.{cases_lt}
use Rattle.std.proofs.lemmas.List.{get_or-map, get_or-take, get_or_append_left, get_or_push, length-map, length-take-le, length_push}
use Rattle.std.proofs.lemmas.List.Elements.{Contains-get_or}
use Rattle.std.proofs.lemmas.List.Kept.{AllPairs-from_increasing}

pub ascending_push : (xs : List ℕ) (x : ℕ) → IsStrictlyIncreasing xs → ((y : ℕ) → Contains xs y → y < x) → IsStrictlyIncreasing (xs ++ x ∷ [])
ascending_push xs x ascending below k lt = elim (cases_lt (k + 1) (length xs)) [
  | inl within ↦ subst (λ y. y < slice_index (xs ++ x ∷ []) (k + 1)) (sym (get_or_append_left xs (x ∷ []) 0 k (omega (arith, within))))
      (subst (λ y. slice_index xs k < y) (sym (get_or_append_left xs (x ∷ []) 0 (k + 1) within)) (ascending k within))
  | inr past ↦
      let end : length xs ≡ k + 1 = omega (arith, past, lt, length_push xs x) in
      let last : k < length xs = omega (arith, end) in
      subst (λ y. y < slice_index (xs ++ x ∷ []) (k + 1)) (sym (get_or_append_left xs (x ∷ []) 0 k last))
      (subst (λ y. slice_index xs k < y) (sym (get_or_push xs x 0 (k + 1) end)) (below (slice_index xs k) (Contains-get_or xs k 0 last)))
]

module _ {A : Type 0} (number : A → ℕ) (xs : List A) (ascending : IsStrictlyIncreasing (map number xs)) where
  less : (i j : ℕ) (x y : A) → i < j → j < length xs → get_or xs i x ≡ x → get_or xs j y ≡ y → number x < number y
  less i j x y lt within at other =
      let long = length-map xs number in
      let first : get_or (map number xs) i 0 ≡ number x = get_or-map number xs i x 0 (omega (arith, lt, within)) ∙ ap number at in
      let second : get_or (map number xs) j 0 ≡ number y = get_or-map number xs j y 0 within ∙ ap number other in
      subst (λ n. n < number y) first (subst (λ n. get_or (map number xs) i 0 < n) second
      (AllPairs-from_increasing (map number xs) ascending i j 0 lt (omega (arith, long, within))))

  module _ (i : ℕ) (x : A) (within : i < length xs) (is : x ≡ get_or xs i x) where
    -- what has a smaller number than an element comes before it
    pub smaller_before : (y : A) → Contains xs y → number y < number x → Contains (take i xs) y
    smaller_before y (k, inside, at) smaller = elim (cases_lt k i) [
      | inl early ↦ (
        k,
        (let long = length-take-le i xs (omega (arith, within)) in omega (arith, long, early)),
        get_or-take i xs k y early ∙ at,
      )
      | inr late ↦ elim (cases_lt i k) [
        | inl after ↦ let more = less i k x y after inside (sym is) at in absurd (omega (arith, smaller, more))
        | inr same ↦
            let here : i ≡ k = omega (arith, late, same) in
            let equal : number x ≡ number y = ap number is ∙ sym (get_or-map number xs i x 0 within) ∙ ap (λ n. get_or (map number xs) n 0) here
            ∙ get_or-map number xs k y 0 inside ∙ ap number at in
            absurd (omega (arith, smaller, equal))
      ]
    ]

    -- what comes before it has a smaller number
    pub before_smaller : (y : A) → Contains (take i xs) y → number y < number x
    before_smaller y (k, inside, at) =
        let long = length-take-le i xs (omega (arith, within)) in
        let early : k < i = omega (arith, inside, long) in
        less k i y x early within (sym (get_or-take i xs k y early) ∙ at) (sym is)
