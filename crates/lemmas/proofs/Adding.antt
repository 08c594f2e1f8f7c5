-- What holds of more than before: of what it held of, and of what was found.
use Rattle.std.proofs.Common.{◌≡◌, ◌↔◌, ◌⊎◌, inl, inr, ℕ, ◌<◌, List, length, get_or, slice_set, refl, sym, subst, get_or-set_same, get_or-set_other}
use Rattle.std.proofs.lemmas.Bool.{cases_eq}

abbrev pub Adds : {A : Type 0} → (A → Type 0) → (A → Type 0) → (A → Type 0) → Type 0
Adds {A} found old new = (x : A) → (new x ↔ (old x ⊎ found x))

module _ {A : Type 0} {old new found : A → Type 0} where
  -- what was found, described differently
  pub adds_as : (found' : A → Type 0) → ((x : A) → found x → old x ⊎ found' x) → ((x : A) → found' x → old x ⊎ found x) → Adds found old new → Adds found' old new
  adds_as found' to from w x = (
    (λ h. elim ((w x).0 h) [ inl i ↦ inl i | inr i ↦ to x i ]),
    (λ h. (w x).1 (elim h [ inl i ↦ inl i | inr i ↦ from x i ])),
  )

  -- and then more is found
  pub adds_then : {last found' : A → Type 0} → Adds found old new → Adds found' new last → Adds (λ x. found x ⊎ found' x) old last
  adds_then w v x = (
    (λ h. elim ((v x).0 h) [
      | inl i ↦ elim ((w x).0 i) [ inl j ↦ inl j | inr j ↦ inr (inl j) ]
      | inr i ↦ inr (inr i)
    ]),
    (λ h. (v x).1 (elim h [
      | inl i ↦ inl ((w x).1 (inl i))
      | inr i ↦ elim i [ inl j ↦ inl ((w x).1 (inr j)) | inr j ↦ inr j ]
    ])),
  )

-- an element was replaced by one that has more
pub set_adds : {A B : Type 0} (Has : A → B → Type 0) (found : B → Type 0) (xs : List A) (i : ℕ) (x d : A) → i < length xs
    → Adds found (Has (get_or xs i d)) (Has x) → (j : ℕ) → Adds (λ b. (j ≡ i) × found b) (Has (get_or xs j d)) (Has (get_or (slice_set xs i x) j d))
set_adds Has found xs i x d lt adds j b = elim (cases_eq j i) [
  | inl e ↦ subst (λ k. Has (get_or (slice_set xs i x) k d) b ↔ (Has (get_or xs k d) b ⊎ ((k ≡ i) × found b))) (sym e)
      (subst (λ y. Has y b ↔ (Has (get_or xs i d) b ⊎ ((i ≡ i) × found b))) (sym (get_or-set_same xs i x d lt)) (
        (λ h. elim ((adds b).0 h) [ inl k ↦ inl k | inr k ↦ inr (refl, k) ]),
        (λ h. (adds b).1 (elim h [ inl k ↦ inl k | inr k ↦ inr k.1 ])),
      ))
  | inr ne ↦ subst (λ y. Has y b ↔ (Has (get_or xs j d) b ⊎ ((j ≡ i) × found b))) (sym (get_or-set_other xs i j x d ne))
      ((λ h. inl h), (λ h. elim h [ inl k ↦ k | inr k ↦ absurd (ne k.0) ]))
]
