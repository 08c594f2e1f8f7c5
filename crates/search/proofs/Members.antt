-- Members of components, added node by node.
use Rattle.std.proofs.Common.{◌≡◌, ℕ, ◌+◌, ◌<◌, ◌⊎◌, inl, inr, List, [], ◌∷◌, ◌++◌, Contains, get_or, length, slice_index, slice_set, arith, sym, ap, ◌∙◌, subst, get_or-set_same, get_or-set_other}
use Rattle.std.specs.List.Sorted.{IsStrictlyIncreasing}
use Rattle.std.proofs.lemmas.Bool.{cases_eq, cases_lt}
use Rattle.std.proofs.lemmas.List.{get_or_append_left, get_or_push, length_push}
use Rattle.std.proofs.lemmas.List.Elements.{Contains-append_left, Contains-get_or, Contains-push, Contains-push_cases}
use Rattle.lemmas.proofs.Contained.{contains_cases, contains_first, contains_later, contains_none}
use Rattle.search.specs.Components.{AreMembers}

-- whether a list contains a number
pub contains_or_not : (xs : List ℕ) (x : ℕ) → Contains xs x ⊎ (Contains xs x → ⊥)
contains_or_not [] x = inr (contains_none x)
contains_or_not (y ∷ xs) x = elim (cases_eq y x) [
  | inl same ↦ inl (subst (Contains (y ∷ xs)) same (contains_first y xs))
  | inr other ↦ elim (contains_or_not xs x) [
    | inl c ↦ inl (contains_later y x xs c)
    | inr none ↦ inr (λ c. elim (contains_cases y x xs c) [ inl same ↦ other same | inr later ↦ none later ])
  ]
]

ascending_push : (xs : List ℕ) (x : ℕ) → IsStrictlyIncreasing xs → ((y : ℕ) → Contains xs y → y < x) → IsStrictlyIncreasing (xs ++ x ∷ [])
ascending_push xs x ascending below k lt = elim (cases_lt (k + 1) (length xs)) [
  | inl within ↦ subst (λ y. y < slice_index (xs ++ x ∷ []) (k + 1)) (sym (get_or_append_left xs (x ∷ []) 0 k (omega (arith, within))))
      (subst (λ y. slice_index xs k < y) (sym (get_or_append_left xs (x ∷ []) 0 (k + 1) within)) (ascending k within))
  | inr past ↦
      let end : length xs ≡ k + 1 = omega (arith, past, lt, length_push xs x) in
      let last : k < length xs = omega (arith, end) in
      subst (λ y. y < slice_index (xs ++ x ∷ []) (k + 1)) (sym (get_or_append_left xs (x ∷ []) 0 k last))
      (subst (λ y. slice_index xs k < y) (sym (get_or_push xs x 0 (k + 1) end)) (below (slice_index xs k) (Contains-get_or xs k 0 last)))
]

-- the nodes with this number, and one more
abbrev pub longer_list : List (List ℕ) → ℕ → ℕ → List ℕ
longer_list members number node = get_or members number [] ++ node ∷ []

-- one more node is added to those with its number
pub one_member : (numbers : List ℕ) (members new : List (List ℕ)) (node number : ℕ) → slice_index numbers node ≡ number → number < length members
    → new ≡ slice_set members number (longer_list members number node) → ((r : ℕ) → AreMembers numbers node r (get_or members r []))
    → (r : ℕ) → AreMembers numbers (node + 1) r (get_or new r [])
one_member numbers members new node number of within is are r = subst (λ l. AreMembers numbers (node + 1) r (get_or l r [])) (sym is) (elim (cases_eq r number) [
  | inl same ↦ subst (λ n. AreMembers numbers (node + 1) n (get_or (slice_set members number (longer_list members number node)) n [])) (sym same)
      (subst (AreMembers numbers (node + 1) number) (sym (get_or-set_same members number (longer_list members number node) [] within)) longer)
  | inr other ↦ subst (AreMembers numbers (node + 1) r) (sym (get_or-set_other members number r (longer_list members number node) [] other)) (record {
    ascending = (are r).ascending;
    all = λ k. (
      (λ c. let w = ((are r).all k).0 c in (omega (arith, w.0), w.1)),
      (λ h. elim (cases_lt k node) [
        | inl lt ↦ ((are r).all k).1 (lt, h.1)
        | inr past ↦
            let this : node ≡ k = omega (arith, past, h.0) in
            absurd (other (sym h.1 ∙ ap (slice_index numbers) (sym this) ∙ of))
      ]),
    );
  })
])
  where
    longer : AreMembers numbers (node + 1) number (longer_list members number node)
    longer = record {
      ascending = ascending_push (get_or members number []) node (are number).ascending (λ y c. (((are number).all y).0 c).0);
      all = λ k. (
        (λ c. elim (Contains-push_cases (get_or members number []) node k c) [
          | inl old ↦ let w = ((are number).all k).0 old in (omega (arith, w.0), w.1)
          | inr this ↦ subst (λ n. (n < node + 1) × (slice_index numbers n ≡ number)) this (omega arith, of)
        ]),
        (λ h. elim (cases_lt k node) [
          | inl lt ↦ Contains-append_left (get_or members number []) (node ∷ []) k (((are number).all k).1 (lt, h.1))
          | inr past ↦ let this : node ≡ k = omega (arith, past, h.0) in subst (Contains (longer_list members number node)) this (Contains-push (get_or members number []) node)
        ]),
      );
    }
