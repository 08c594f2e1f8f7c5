-- The first of the nearest elements, found one after another: of any elements, at any distances.
use Rattle.std.proofs.Common.{◌≡◌, ◌↔◌, ℕ, ◌+◌, ◌≤◌, Bool, true, false, not, ◌&&◌, ltb, List, [], ◌∷◌, ◌++◌, Option, Some, None, All, refl, sym, ap, ◌∙◌, subst, inl, inr, arith, append_assoc, if◌then◌else◌}
use Rattle.std.specs.List.{find, list_any}
use Rattle.std.proofs.lemmas.Bool.{and_parts, and_from, and_left, and_right, and_cases, ltb-true, ltb-false, lt-ltb, le-ltb, both_ways}
use Rattle.std.proofs.lemmas.List.Elements.{All-head, All-push, All-tail, All-weaker}
use Rattle.std.proofs.lemmas.List.Folds.{list_any_none}

find_none : {A : Type 0} (p : A → Bool) (xs : List A) → All (λ x. p x ≡ false) xs → find p xs ≡ None
find_none p [] none = refl
find_none p (x ∷ xs) none =
    rw (All-head (λ y. p y ≡ false) x xs none) (find_none p xs (All-tail (λ y. p y ≡ false) x xs none))

find_between : {A : Type 0} (p : A → Bool) (before : List A) (x : A) (after : List A) → All (λ y. p y ≡ false) before → p x ≡ true
    → find p (before ++ (x ∷ after)) ≡ Some x
find_between p [] x after none passes = rw passes refl
find_between p (y ∷ before) x after none passes =
    rw (All-head (λ z. p z ≡ false) y before none) (find_between p before x after (All-tail (λ z. p z ≡ false) y before none) passes)

any_between : {A : Type 0} (p : A → Bool) (before : List A) (x : A) (after : List A) → p x ≡ true → list_any p (before ++ (x ∷ after)) ≡ true
any_between p [] x after passes = rw passes refl
any_between p (y ∷ before) x after passes = grind (arith, any_between p before x after passes)

module _ {A : Type 0} (other : A → Bool) (far : A → ℕ) (most : ℕ) where
  abbrev pub closer : A → ℕ → Bool
  closer x bound = other x && ltb (far x) bound

  abbrev pub is_first : List A → A → Bool
  is_first xs x = closer x most && not (list_any (λ y. closer y (far x)) xs)

  -- what is found once one more has passed, and the bound for the next
  abbrev pub taken : Option A × ℕ → A → Option A × ℕ
  taken found x = if closer x found.1 then (Some x, far x) else found

  lower : (x : A) (low high : ℕ) → low ≤ high → closer x high ≡ false → closer x low ≡ false
  lower x low high le fails = elim (and_cases (other x) (ltb (far x) high) fails) [
    | inl same ↦ and_left (other x) (ltb (far x) low) same
    | inr beyond ↦
        let above = ltb-false (far x) high beyond in
        and_right (other x) (ltb (far x) low) (le-ltb (far x) low (omega arith))
  ]

  higher : (x : A) (low high : ℕ) → low ≤ high → closer x low ≡ true → closer x high ≡ true
  higher x low high le passes =
      let parts = and_parts (other x) (ltb (far x) low) passes in
      let below = ltb-true (far x) low parts.1 in
      and_from (other x) (ltb (far x) high) parts.0 (lt-ltb (far x) high (omega arith))

  not_itself : (x : A) → closer x (far x) ≡ false
  not_itself x = and_right (other x) (ltb (far x) (far x)) (le-ltb (far x) (far x) (omega arith))

  -- it is the first of those that are nearest
  pub record IsFirst (xs : List A) (x : A) : Type 0 where
    pub before : List A
    pub after : List A
    pub are : xs ≡ before ++ (x ∷ after)
    pub near : closer x most ≡ true
    pub none_closer : All (λ y. closer y (far x) ≡ false) xs
    pub farther : All (λ y. closer y (far x + 1) ≡ false) before

  -- what is found among these, and the bound for the next
  abbrev pub IsFound : List A → Option A → ℕ → Type 0
  IsFound xs None bound = (bound ≡ most) × All (λ y. closer y most ≡ false) xs
  IsFound xs (Some x) bound = (bound ≡ far x) × IsFirst xs x

  -- one that is farther than the first isn't among the nearest
  passed : (xs : List A) (x : A) → IsFirst xs x → (y : A) → closer y (far x + 1) ≡ false → is_first xs y ≡ false
  passed xs x first y fails = elim (and_cases (other y) (ltb (far y) (far x + 1)) fails) [
    | inl same ↦ and_left (closer y most) _ (and_left (other y) (ltb (far y) most) same)
    | inr beyond ↦
        let above = ltb-false (far y) (far x + 1) beyond in
        let parts = and_parts (other x) (ltb (far x) most) first.near in
        let x_closer : closer x (far y) ≡ true = and_from (other x) (ltb (far x) (far y)) parts.0 (lt-ltb (far x) (far y) (omega arith)) in
        let any : list_any (λ z. closer z (far y)) xs ≡ true =
        rw first.are (any_between (λ z. closer z (far y)) first.before x first.after x_closer) in
        and_right (closer y most) (not (list_any (λ z. closer z (far y)) xs)) (ap not any)
  ]

  first_found : (xs : List A) (x : A) → IsFirst xs x → find (is_first xs) xs ≡ Some x
  first_found xs x first =
      let passes : is_first xs x ≡ true =
      and_from (closer x most) (not (list_any (λ y. closer y (far x)) xs)) first.near (ap not (list_any_none (λ y. closer y (far x)) xs first.none_closer)) in
      let none = All-weaker (λ y. closer y (far x + 1) ≡ false) (λ y. is_first xs y ≡ false) (passed xs x first) first.before first.farther in
      ap (find (is_first xs)) first.are ∙ find_between (is_first xs) first.before x first.after none passes

  pub found_is : (xs : List A) (found : Option A) (bound : ℕ) → IsFound xs found bound → find (is_first xs) xs ≡ found
  found_is xs None bound is = find_none (is_first xs) xs (All-weaker (λ y. closer y most ≡ false) (λ y. is_first xs y ≡ false)
      (λ y fails. and_left (closer y most) (not (list_any (λ z. closer z (far y)) xs)) fails) xs is.1)
  found_is xs (Some x) bound is = first_found xs x is.1

  -- the bound is never over the first one
  bound_low : (xs : List A) (found : Option A) (bound : ℕ) → IsFound xs found bound → bound ≤ most
  bound_low xs None bound is = omega (arith, is.0)
  bound_low xs (Some x) bound is =
      let below = ltb-true (far x) most (and_parts (other x) (ltb (far x) most) is.1.near).1 in
      omega (arith, is.0)

  none_below : (xs : List A) (found : Option A) (bound : ℕ) → IsFound xs found bound → All (λ y. closer y bound ≡ false) xs
  none_below xs None bound is = subst (λ (b : ℕ). All (λ y. closer y b ≡ false) xs) (sym is.0) is.1
  none_below xs (Some x) bound is = subst (λ (b : ℕ). All (λ y. closer y b ≡ false) xs) (sym is.0) is.1.none_closer

  one_taken : (xs : List A) (found : Option A) (bound : ℕ) (x : A) → IsFound xs found bound → closer x bound ≡ true → IsFirst (xs ++ x ∷ []) x
  one_taken xs found bound x is passes =
      let below = ltb-true (far x) bound (and_parts (other x) (ltb (far x) bound) passes).1 in
      let low = none_below xs found bound is in
      record {
        before = xs;
        after = [];
        are = refl;
        near = higher x bound most (bound_low xs found bound is) passes;
        none_closer = All-push (λ y. closer y (far x) ≡ false) xs x
            (All-weaker (λ y. closer y bound ≡ false) (λ y. closer y (far x) ≡ false) (λ y. lower y (far x) bound (omega arith)) xs low) (not_itself x);
        farther = All-weaker (λ y. closer y bound ≡ false) (λ y. closer y (far x + 1) ≡ false) (λ y. lower y (far x + 1) bound (omega arith)) xs low;
      }

  one_left : (xs : List A) (found : Option A) (bound : ℕ) (x : A) → IsFound xs found bound → closer x bound ≡ false → IsFound (xs ++ x ∷ []) found bound
  one_left xs None bound x is fails =
      (is.0, All-push (λ y. closer y most ≡ false) xs x is.1 (subst (λ (b : ℕ). closer x b ≡ false) is.0 fails))
  one_left xs (Some z) bound x is fails = (
    is.0,
    record {
      before = is.1.before;
      after = is.1.after ++ x ∷ [];
      are = ap (λ (all : List A). all ++ x ∷ []) is.1.are ∙ append_assoc is.1.before (z ∷ is.1.after) (x ∷ []);
      near = is.1.near;
      none_closer = All-push (λ y. closer y (far z) ≡ false) xs x is.1.none_closer (subst (λ (b : ℕ). closer x b ≡ false) is.0 fails);
      farther = is.1.farther;
    },
  )

  -- what is found is near, so nothing is found exactly if none is
  pub none_is : (xs : List A) (found : Option A) (bound : ℕ) → IsFound xs found bound → (found ≡ None) ↔ All (λ y. closer y most ≡ false) xs
  none_is xs None bound is = (λ _. is.1, λ _. refl)
  none_is xs (Some x) bound is = (
    λ (e : Some x ≡ None). cc,
    λ none. absurd (both_ways (list_any (λ y. closer y most) xs) (list_any_none (λ y. closer y most) xs none)
        (rw is.1.are (any_between (λ y. closer y most) is.1.before x is.1.after is.1.near))),
  )

  if_some : (b : Bool) (edits n : ℕ) → Some edits ≡ (if b then Some n else None) → (b ≡ true) × (edits ≡ n)
  if_some true edits n is = (refl, cc)
  if_some false edits n is = absurd cc

  if_none : (b : Bool) (n : ℕ) → ◌≡◌ {A = Option ℕ} None (if b then Some n else None) → b ≡ false
  if_none true n is = absurd cc
  if_none false n is = refl

  -- one more has passed
  pub more_taken : (xs : List A) (found : Option A) (bound : ℕ) (x : A) (edits : ℕ) → IsFound xs found bound
      → Some edits ≡ (if closer x bound then Some (far x) else None) → IsFound (xs ++ x ∷ []) (Some x) edits
  more_taken xs found bound x edits is below =
      let closest = if_some (closer x bound) edits (far x) below in
      (closest.1, one_taken xs found bound x is closest.0)

  pub more_left : (xs : List A) (found : Option A) (bound : ℕ) (x : A) → IsFound xs found bound
      → ◌≡◌ {A = Option ℕ} None (if closer x bound then Some (far x) else None) → IsFound (xs ++ x ∷ []) found bound
  more_left xs found bound x is beyond = one_left xs found bound x is (if_none (closer x bound) (far x) beyond)
