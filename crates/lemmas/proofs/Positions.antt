-- The index of the first element that passes a test.
use Rattle.std.proofs.Common.{◌≡◌, ℕ, ◌+◌, ◌<◌, Bool, true, false, cond, not, ◌||◌, nat_lt, List, [], ◌∷◌, ◌++◌, map, length, get_or, position, slice_get, Some, None, refl, sym, ap, ◌∙◌, arith, lt-ltb}
use Rattle.std.specs.Cmp.{IsEquivalence}
use Rattle.std.specs.List.{list_any, position_or_len, IsDistinct}
use Rattle.std.proofs.lemmas.List.{length-map}
use Rattle.std.proofs.lemmas.List.Folds.{list_any-append, list_any_at}
use Rattle.std.proofs.lemmas.List.Sums.{position_or_len_is}
use Rattle.std.proofs.lemmas.Bool.{false≢true, or_left}
use Rattle.std.proofs.lemmas.Bool.Decides.{nat_tests}
use Rattle.std.proofs.lemmas.Map.Keys.{apart_from_distinct}
use Rattle.std.proofs.lemmas.Option.{slice_get_within, get_or_from_slice_get}

pub position_or_len-map : {A B : Type 0} (p : B → Bool) (f : A → B) (xs : List A) → position_or_len p (map f xs) ≡ position_or_len (λ x. p (f x)) xs
position_or_len-map p f [] = refl
position_or_len-map p f (x ∷ xs) = ap (λ n. cond (not (p (f x))) (1 + n) 0) (position_or_len-map p f xs)

pub position-map : {A B : Type 0} (p : B → Bool) (f : A → B) (xs : List A) → position p (map f xs) ≡ position (λ x. p (f x)) xs
position-map p f xs = λ i. cond (nat_lt (position_or_len-map p f xs i) (length-map xs f i)) (Some (position_or_len-map p f xs i)) None

module _ {A : Type 0} (p : A → Bool) where
  pub position_or_len-push : (xs : List A) (x : A) → p x ≡ true → position_or_len p (xs ++ x ∷ []) ≡ position_or_len p xs
  position_or_len-push [] x passes = ap (λ b. cond (not b) 1 0) passes
  position_or_len-push (y ∷ xs) x passes = ap (λ n. cond (not (p y)) (1 + n) 0) (position_or_len-push xs x passes)

  pub position_or_len-append : (xs ys : List A) → list_any p xs ≡ true → position_or_len p (xs ++ ys) ≡ position_or_len p xs
  position_or_len-append [] ys h = absurd (false≢true h)
  position_or_len-append (x ∷ xs) ys h = go (p x) h (position_or_len-append xs ys)
    where
      go : (b : Bool) → (b || list_any p xs) ≡ true → (list_any p xs ≡ true → position_or_len p (xs ++ ys) ≡ position_or_len p xs)
          → cond (not b) (1 + position_or_len p (xs ++ ys)) 0 ≡ cond (not b) (1 + position_or_len p xs) 0
      go true h rest = refl
      go false h rest = ap (λ n. 1 + n) (rest h)

  -- an index is found exactly if an element passes
  pub found-position : (xs : List A) → nat_lt (position_or_len p xs) (length xs) ≡ list_any p xs
  found-position [] = refl
  found-position (x ∷ xs) = go (p x) (found-position xs)
    where
      go : (b : Bool) → nat_lt (position_or_len p xs) (length xs) ≡ list_any p xs
          → nat_lt (cond (not b) (1 + position_or_len p xs) 0) (length (x ∷ xs)) ≡ (b || list_any p xs)
      go true rest = lt-ltb _ _ (omega arith)
      go false rest = grind (arith, nat_tests)

  pub position_found : (xs : List A) (i : ℕ) → Some i ≡ position p xs → i ≡ position_or_len p xs
  position_found xs i found = go (nat_lt (position_or_len p xs) (length xs)) found
    where
      go : (b : Bool) → Some i ≡ cond b (Some (position_or_len p xs)) None → i ≡ position_or_len p xs
      go true e = cc
      go false e = cc

  -- the first index whose element passes is found, if there is one
  pub first_position : (xs : List A) → list_any p xs ≡ true → position p xs ≡ Some (position_or_len p xs)
  first_position xs some = ap (λ b. cond b (Some (position_or_len p xs)) None) (found-position xs ∙ some)

  -- there is no index if no element passes
  pub no_position : (xs : List A) → list_any p xs ≡ false → position p xs ≡ None
  no_position xs none = ap (λ b. cond b (Some (position_or_len p xs)) None) (found-position xs ∙ none)

  pub position-push : (xs : List A) (x : A) → p x ≡ false → position p (xs ++ x ∷ []) ≡ position p xs
  position-push xs x fails = go (list_any p xs) refl
    where
      all : list_any p (xs ++ x ∷ []) ≡ (list_any p xs || (p x || false))
      all = list_any-append p xs (x ∷ [])

      go : (b : Bool) → list_any p xs ≡ b → position p (xs ++ x ∷ []) ≡ position p xs
      go true e = first_position (xs ++ x ∷ []) (all ∙ or_left _ _ e) ∙ ap Some (position_or_len-append xs (x ∷ []) e) ∙ sym (first_position xs e)
      go false e = no_position (xs ++ x ∷ []) (all ∙ (λ i. e i || (fails i || false))) ∙ sym (no_position xs e)

-- elements that differ from each other are found at their own indices
module _ {K : Type 0} {eq : K → K → Bool} (laws : IsEquivalence eq) where
  pub position_or_len-distinct : (xs : List K) (i : ℕ) (d : K) → IsDistinct eq xs → i < length xs → position_or_len (eq (get_or xs i d)) xs ≡ i
  position_or_len-distinct xs i d distinct within = position_or_len_is (eq (get_or xs i d)) xs i d (omega arith)
      (λ k before. laws.symm (get_or xs i d) (get_or xs k d) ∙ apart_from_distinct eq xs k i d distinct before within) (λ h. laws.refl (get_or xs i d))

  pub position-distinct : (xs : List K) (i : ℕ) (x : K) → IsDistinct eq xs → slice_get xs i ≡ Some x → position (eq x) xs ≡ Some i
  position-distinct xs i x distinct at =
      let within = slice_get_within xs i x at in
      let is = get_or_from_slice_get xs i x x at in
      first_position (eq x) xs (list_any_at (eq x) xs i x within (ap (eq x) is ∙ laws.refl x))
      ∙ ap Some (ap (λ n. position_or_len (eq n) xs) (sym is) ∙ position_or_len-distinct xs i x distinct within)
