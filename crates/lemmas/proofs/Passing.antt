-- The indices of the elements that pass a test.
use Rattle.std.proofs.Common.{◌≡◌, ℕ, zero, suc, ◌<◌, get_or, Contains, subst, ◌+◌, Bool, true, false, cond, List, [], ◌∷◌, ◌++◌, map, length, All, if◌then◌else◌, refl, sym, ap, ◌∙◌, add-zero, zero-add, arith}
use Rattle.std.specs.List.{list_any}
use Rattle.std.proofs.lemmas.List.Elements.{All-nil, All-cons, All-head, All-tail, All-weaker}
use Rattle.std.proofs.lemmas.Bool.{or_parts}
use Rattle.lemmas.specs.Lists.{positions, positions_from}

module _ {A : Type 0} (p : A → Bool) where
  pub positions-push : (xs : List A) (x : A) → positions p (xs ++ x ∷ []) ≡ (if p x then positions p xs ++ length xs ∷ [] else positions p xs)
  positions-push xs x = go 0 xs ∙ ap (λ n. if p x then positions p xs ++ n ∷ [] else positions p xs) (zero-add (length xs))
    where
      last : (i : ℕ) (b : Bool) → cond b (i ∷ []) [] ≡ cond b ((i + 0) ∷ []) []
      last i b = ap (λ j. cond b (j ∷ []) []) (sym (add-zero i))

      kept : (b c : Bool) (i j : ℕ) (r : List ℕ) → cond b (i ∷ cond c (r ++ j ∷ []) r) (cond c (r ++ j ∷ []) r) ≡ cond c (cond b (i ∷ r) r ++ j ∷ []) (cond b (i ∷ r) r)
      kept true true i j r = refl
      kept true false i j r = refl
      kept false true i j r = refl
      kept false false i j r = refl

      go : (i : ℕ) (ys : List A) → positions_from i p (ys ++ x ∷ []) ≡ cond (p x) (positions_from i p ys ++ (i + length ys) ∷ []) (positions_from i p ys)
      go i [] = last i (p x)
      go i (y ∷ ys) =
          ap (λ r. cond (p y) (i ∷ r) r) (go (i + 1) ys)
          ∙ kept (p y) (p x) i (i + 1 + length ys) (positions_from (i + 1) p ys)
          ∙ ap (λ j. cond (p x) (positions_from i p (y ∷ ys) ++ j ∷ []) (positions_from i p (y ∷ ys))) (omega arith)

  pub positions_from-none : (i : ℕ) (xs : List A) → list_any p xs ≡ false → positions_from i p xs ≡ []
  positions_from-none i [] none = refl
  positions_from-none i (x ∷ xs) none =
      let both = or_parts (p x) _ none in
      ap (λ b. cond b (i ∷ positions_from (i + 1) p xs) (positions_from (i + 1) p xs)) both.0 ∙ positions_from-none (i + 1) xs both.1

  pub positions-none : (xs : List A) → list_any p xs ≡ false → positions p xs ≡ []
  positions-none = positions_from-none 0

-- the indices for two tests that agree on each element are the same
pub positions-same : {A : Type 0} (p q : A → Bool) (xs : List A) → All (λ x. p x ≡ q x) xs → positions p xs ≡ positions q xs
positions-same {A} p q = go 0
  where
    go : (i : ℕ) (xs : List A) → All (λ x. p x ≡ q x) xs → positions_from i p xs ≡ positions_from i q xs
    go i [] same = refl
    go i (x ∷ xs) same = λ j.
        let others = go (i + 1) xs (All-tail (λ x. p x ≡ q x) x xs same) j in
        cond (All-head (λ x. p x ≡ q x) x xs same j) (i ∷ others) others

pub positions-map : {A B : Type 0} (p : B → Bool) (f : A → B) (xs : List A) → positions p (map f xs) ≡ positions (λ x. p (f x)) xs
positions-map {A} p f = go 0
  where
    go : (i : ℕ) (xs : List A) → positions_from i p (map f xs) ≡ positions_from i (λ x. p (f x)) xs
    go i [] = refl
    go i (x ∷ xs) = ap (λ others. cond (p (f x)) (i ∷ others) others) (go (i + 1) xs)

-- each is within the list, and that of an element that passes the test is among them

abbrev IsBelow : ℕ → ℕ → Type 0
IsBelow n i = i < n

pub positions_from-within : {A : Type 0} (test : A → Bool) (first : ℕ) (xs : List A) → All (IsBelow (first + length xs)) (positions_from first test xs)
positions_from-within test first [] = All-nil (IsBelow (first + 0))
positions_from-within {A} test first (x ∷ xs) =
    go (test x) (All-weaker (IsBelow (first + 1 + length xs)) IsWithin (λ i before. omega arith) others (positions_from-within test (first + 1) xs))
  where
    IsWithin : ℕ → Type 0
    IsWithin = IsBelow (first + length (x ∷ xs))

    others : List ℕ
    others = positions_from (first + 1) test xs

    go : (b : Bool) → All IsWithin others → All IsWithin (cond b (first ∷ others) others)
    go true rest = All-cons IsWithin first others (omega arith) rest
    go false rest = rest

pub positions_from-contains : {A : Type 0} (test : A → Bool) (first i : ℕ) (xs : List A) (d : A) → i < length xs → test (get_or xs i d) ≡ true → Contains (positions_from first test xs) (first + i)
positions_from-contains test first i [] d within passes = absurd (omega (arith, within))
positions_from-contains test first zero (x ∷ xs) d within passes =
    let others = positions_from (first + 1) test xs in
    subst (λ b. Contains (cond b (first ∷ others) others) (first + 0)) (sym passes) (0, omega arith, omega arith)
positions_from-contains {A} test first (suc i) (x ∷ xs) d within passes =
    go (test x) (subst (Contains others) (omega arith) (positions_from-contains test (first + 1) i xs d (omega (arith, within)) passes))
  where
    others : List ℕ
    others = positions_from (first + 1) test xs

    go : (b : Bool) → Contains others (first + suc i) → Contains (cond b (first ∷ others) others) (first + suc i)
    go true at = (suc at.0, omega (arith, at.1), at.2)
    go false at = at
