-- Groups on a path, each of which begins after those before it.
use Rattle.std.proofs.Common.{◌≡◌, ℕ, zero, suc, ◌-◌, ◌<◌, ◌≤◌, ◌⊎◌, ◌↔◌, inl, inr, List, [], ◌∷◌, ◌++◌, Option, Some, Contains, get_or, length, slice_get, arith, refl, sym, ap, subst, ◌∙◌}
use Rattle.std.specs.Option.{option_to_list}
use Rattle.std.proofs.lemmas.List.{get_or_push, length_push}
use Rattle.std.proofs.lemmas.List.Elements.{Contains-append_cases, Contains-append_left, Contains-push_cases}
use Rattle.std.proofs.lemmas.Option.{get_or_from_slice_get, slice_get-get_or, slice_get_within}
use Rattle.lemmas.proofs.Contained.{contains_cases, contains_none}
use Rattle.lemmas.proofs.Elements.{slice_get_push}
use Rattle.lemmas.proofs.Popped.{popped}
use Rattle.search.specs.declared.walk.Group.{Group}
use Rattle.search.specs.Inner.Walk.{AreRising, IsLast}

pub contains_at : {A : Type 0} (xs : List A) (x : A) → Contains xs x → (k : ℕ) × (slice_get xs k ≡ Some x)
contains_at xs x (k, within, at) = (k, slice_get-get_or xs k x within ∙ (λ i. Some (at i)))

pub contains_there : {A : Type 0} (xs : List A) (k : ℕ) (x : A) → slice_get xs k ≡ Some x → Contains xs x
contains_there xs k x at = (k, slice_get_within xs k x at, get_or_from_slice_get xs k x x at)

pub slice_get_left : {A : Type 0} (xs ys : List A) (k : ℕ) (x : A) → slice_get xs k ≡ Some x → slice_get (xs ++ ys) k ≡ Some x
slice_get_left [] ys k x at = absurd (omega (arith, slice_get_within [] k x at))
slice_get_left (y ∷ xs) ys zero x at = at
slice_get_left (y ∷ xs) ys (suc k) x at = slice_get_left xs ys k x at

-- an element of two lists, one after the other
pub slice_get_cases : {A : Type 0} (xs ys : List A) (k : ℕ) (x : A) → slice_get (xs ++ ys) k ≡ Some x
    → (slice_get xs k ≡ Some x) ⊎ ((length xs ≤ k) × Contains ys x)
slice_get_cases [] ys k x at = inr (omega arith, contains_there ys k x at)
slice_get_cases (y ∷ xs) ys zero x at = inl at
slice_get_cases (y ∷ xs) ys (suc k) x at = elim (slice_get_cases xs ys k x at) [
  | inl before ↦ inl before
  | inr after ↦ inr (omega (arith, after.0), after.1)
]

-- one more group
pub rising_push : (groups : List Group) (last : Group) → AreRising groups
    → ((g : Group) → Contains groups g → (g.start < last.start) × (g.pending ≤ last.pending)) → AreRising (groups ++ last ∷ [])
rising_push groups last rising before i j g h at_i at_j less = elim (slice_get_cases groups (last ∷ []) j h at_j) [
  | inl old_j ↦ elim (slice_get_cases groups (last ∷ []) i g at_i) [
    | inl old_i ↦ rising i j g h old_i old_j less
    | inr new_i ↦ let within = slice_get_within groups j h old_j in absurd (omega (arith, within, new_i.0, less))
  ]
  | inr new_j ↦
      let end : last ≡ h = elim (Contains-push_cases [] last h new_j.1) [ inl none ↦ absurd (omega (arith, none.1)) | inr same ↦ same ] in
      elim (slice_get_cases groups (last ∷ []) i g at_i) [
        | inl old_i ↦ subst (λ (h : Group). (g.start < h.start) × (g.pending ≤ h.pending)) end (before g (contains_there groups i g old_i))
        | inr new_i ↦
            let within = slice_get_within (groups ++ last ∷ []) j h at_j in
            let long = length_push groups last in
            absurd (omega (arith, within, long, new_i.0, less))
      ]
]

-- the first groups
pub rising_prefix : (groups rest after : List Group) → groups ≡ rest ++ after → AreRising groups → AreRising rest
rising_prefix groups rest after is rising i j g h at_i at_j less =
    subst AreRising is rising i j g h (slice_get_left rest after i g at_i) (slice_get_left rest after j h at_j) less

module _ (groups rest : List Group) (last : Group) (is : groups ≡ rest ++ last ∷ []) (rising : AreRising groups) where
  -- groups before the last one
  pub before_last : (g : Group) → Contains rest g → (g.start < last.start) × (g.pending ≤ last.pending)
  before_last g h =
      let at = contains_at rest g h in
      subst AreRising is rising at.0 (length rest) g last (slice_get_left rest (last ∷ []) at.0 g at.1) (slice_get_push rest last (length rest) refl)
      (slice_get_within rest at.0 g at.1)

  pub up_to_last : (g : Group) → Contains groups g → (g.start ≤ last.start) × (g.pending ≤ last.pending)
  up_to_last g h = elim (Contains-push_cases rest last g (subst (λ l. Contains l g) is h)) [
    | inl before ↦ let b = before_last g before in (omega (arith, b.0), b.1)
    | inr same ↦ subst (λ (h : Group). (h.start ≤ last.start) × (h.pending ≤ last.pending)) same (omega arith, omega arith)
  ]

  -- each group but the last one is among the others
  pub not_last : (g : Group) → Contains groups g → g.start < last.start → Contains rest g
  not_last g h less = elim (Contains-push_cases rest last g (subst (λ l. Contains l g) is h)) [
    | inl before ↦ before
    | inr same ↦ absurd (omega (arith, subst (λ (h : Group). h.start < last.start) (sym same) less))
  ]

  pub in_rest : (g : Group) → Contains rest g → Contains groups g
  in_rest g h = subst (λ l. Contains l g) (sym is) (Contains-append_left rest (last ∷ []) g h)

-- a list is empty or has a last group
last_of : (groups : List Group) → (groups ≡ []) ⊎ ((last : Group) × IsLast groups last)
last_of [] = inl refl
last_of (g ∷ groups) = elim (last_of groups) [
  | inl none ↦ inr (g, record { rest = []; is = ap (λ l. g ∷ l) none })
  | inr some ↦ inr (some.0, record { rest = g ∷ some.1.rest; is = ap (λ l. g ∷ l) some.1.is })
]

-- groups that begin after the index were dropped from the end
abbrev pub Dropped : ℕ → List Group → List Group → Type 0
Dropped index old now = (after : List Group) × (old ≡ now ++ after) × ((g : Group) → Contains after g → index < g.start)

pub drops_last : (index : ℕ) (old now new : List Group) (one : Option Group) (last : Group) (n : ℕ) → IsLast now last → index < last.start
    → n ≡ length now → now ≡ new ++ option_to_list one → one ≡ Some (get_or now (n - 1) last) → Dropped index old now → Dropped index old new
drops_last index old now new one last n is more long items value d = (
  last ∷ d.0,
  popped old now new d.0 last d.1 (subst (λ o. now ≡ new ++ option_to_list o) (value ∙ (λ i. Some (end i))) items),
  λ g c. elim (contains_cases last g d.0 c) [ inl same ↦ subst (λ (h : Group). index < h.start) same more | inr later ↦ d.2 g later ],
)
  where
    end : get_or now (n - 1) last ≡ last
    end =
        let count = long ∙ ap length is.is ∙ length_push is.rest last in
        let at : length is.rest ≡ n - 1 = omega (arith, count) in
        ap (λ l. get_or l (n - 1) last) is.is ∙ get_or_push is.rest last last (n - 1) at

module _ (index : ℕ) (old now : List Group) (d : Dropped index old now) (rising : AreRising old) where
  pub dropped_rising : AreRising now
  dropped_rising = rising_prefix old now d.0 d.1 rising

  pub dropped_groups : ((last : Group) → IsLast now last → last.start ≤ index) → (g : Group) → Contains now g ↔ (Contains old g × (g.start ≤ index))
  dropped_groups end g = (
    (λ c. (
      subst (λ l. Contains l g) (sym d.1) (Contains-append_left now d.0 g c),
      elim (last_of now) [
        | inl none ↦ absurd (contains_none g (subst (λ l. Contains l g) none c))
        | inr some ↦
            let b = up_to_last now some.1.rest some.0 some.1.is dropped_rising g c in
            let le = end some.0 some.1 in
            omega (arith, b.0, le)
      ],
    )),
    (λ h. elim (Contains-append_cases now d.0 g (subst (λ l. Contains l g) d.1 h.0)) [
      | inl c ↦ c
      | inr c ↦ let past = d.2 g c in absurd (omega (arith, past, h.1))
    ]),
  )

pub some_group : (groups : List Group) (last : Group) → IsLast groups last → 0 < length groups
some_group groups last is = let long = ap length is.is ∙ length_push is.rest last in omega (arith, long)
