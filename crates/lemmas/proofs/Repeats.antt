-- Elements that occur more than once.
use Rattle.std.proofs.Common.{◌≡◌, ℕ, zero, suc, ◌+◌, ◌<◌, Bool, true, false, cond, ◌||◌, List, [], ◌∷◌, ◌++◌, map, filter, get_or, length, eqb, All, arith, refl, sym, ap, ◌∙◌, append-nil}
use Rattle.std.specs.Cmp.{IsEquivalence}
use Rattle.std.specs.List.{list_any}
use Rattle.std.proofs.Math.Dec.{ltb}
use Rattle.std.proofs.lemmas.Bool.{lt-ltb, ltb-true, ne_eqb, or_right}
use Rattle.std.proofs.lemmas.List.{map-append, length-append}
use Rattle.std.proofs.lemmas.List.Elements.{filter-append, All-map, All-filter}
use Rattle.std.proofs.lemmas.List.Folds.{list_any-append, list_any_at}
use Rattle.lemmas.specs.Lists.{with_prefixes, is_first_repeat, repeated, pushed_unless}
use Rattle.lemmas.proofs.Growing.{from_pushes}
use Rattle.lemmas.proofs.Prefixes.{with_prefixes-push, All-with_prefixes}

-- what f makes of the elements that pass
pub filtered-push : {A B : Type 0} (f : A → B) (p : A → Bool) (xs : List A) (x : A)
    → map f (filter p (xs ++ x ∷ [])) ≡ cond (p x) (map f (filter p xs) ++ f x ∷ []) (map f (filter p xs))
filtered-push f p xs x = ap (map f) (filter-append p xs (x ∷ [])) ∙ map-append f (filter p xs) (filter p (x ∷ [])) ∙ go (p x)
  where
    go : (b : Bool) → map f (filter p xs) ++ map f (cond b (x ∷ []) []) ≡ cond b (map f (filter p xs) ++ f x ∷ []) (map f (filter p xs))
    go true = refl
    go false = append-nil _

or_unless : (a b : Bool) → b ≡ false → (a || (b || false)) ≡ a
or_unless true b e = refl
or_unless false b e = ap (λ b. b || false) e

module _ {A : Type 0} (same : A → A → Bool) where
  abbrev pub count : A → List A → ℕ
  count x xs = length (filter (λ y. same y x) xs)

  -- the same elements of ys, by what f makes of each; g shows something else of each
  pub count-map : {B C : Type 0} (f : B → A) (g : B → C) (x : A) (ys : List B) → count x (map f ys) ≡ length (map g (filter (λ y. same (f y) x) ys))
  count-map f g x [] = refl
  count-map {B} f g x (y ∷ ys) = go (same (f y) x) (count-map f g x ys)
    where
      rest : List B
      rest = filter (λ y. same (f y) x) ys

      go : (b : Bool) → count x (map f ys) ≡ length (map g rest)
          → length (cond b (f y ∷ filter (λ z. same z x) (map f ys)) (filter (λ z. same z x) (map f ys))) ≡ length (map g (cond b (y ∷ rest) rest))
      go true h = omega (arith, h)
      go false h = h

  pub repeated-none : repeated same [] ≡ []
  unfolding repeated
  repeated-none = refl

  pub repeated-push : (xs : List A) (x : A) → repeated same (xs ++ x ∷ []) ≡ cond (eqb (count x xs) 1) (repeated same xs ++ x ∷ []) (repeated same xs)
  unfolding repeated
  repeated-push xs x =
      ap (λ t. map (λ (x : List A × A). x.1) (filter (is_first_repeat same) t)) (with_prefixes-push xs x)
      ∙ filtered-push (λ (x : List A × A). x.1) (is_first_repeat same) (with_prefixes xs) (xs, x)

  All-repeated : (P : A → Type 0) (xs : List A) → All P xs → All P (repeated same xs)
  unfolding repeated
  All-repeated P xs all = All-map P (λ x. x.1) _ (All-filter _ (λ x. P x.1) _ (All-with_prefixes (λ x. P x.1) P (λ prefix x h. h) xs all))

  module _ (laws : IsEquivalence same) where
    count-push : (x : A) (xs : List A) (y : A) (b : Bool) → same y x ≡ b → count x (xs ++ y ∷ []) ≡ cond b (count x xs + 1) (count x xs)
    count-push x xs y b e = ap length (filter-append (λ z. same z x) xs (y ∷ []) ∙ ap (λ b. filter (λ z. same z x) xs ++ cond b (y ∷ []) []) e) ∙ go b
      where
        go : (b : Bool) → length (filter (λ z. same z x) xs ++ cond b (y ∷ []) []) ≡ cond b (count x xs + 1) (count x xs)
        go true = length-append (filter (λ z. same z x) xs) (y ∷ [])
        go false = ap length (append-nil (filter (λ z. same z x) xs))

    -- an element is among the repeated ones exactly if more than one of all is the same
    repeated-known : (x : A) (xs : List A) → list_any (same x) (repeated same xs) ≡ ltb 1 (count x xs)
    repeated-known x = from_pushes (λ xs. list_any (same x) (repeated same xs) ≡ ltb 1 (count x xs)) (ap (list_any (same x)) repeated-none) more
      where
        more : (xs : List A) (y : A) → list_any (same x) (repeated same xs) ≡ ltb 1 (count x xs)
            → list_any (same x) (repeated same (xs ++ y ∷ [])) ≡ ltb 1 (count x (xs ++ y ∷ []))
        more xs y before = ap (list_any (same x)) (repeated-push xs y) ∙ go (same y x) refl
          where
            go : (b : Bool) → same y x ≡ b
                → list_any (same x) (cond (eqb (count y xs) 1) (repeated same xs ++ y ∷ []) (repeated same xs)) ≡ ltb 1 (count x (xs ++ y ∷ []))
            go true e =
                let alike : count y xs ≡ count x xs = λ i. length (filter (λ z. (laws.symm z y ∙ laws.congr y x z e ∙ laws.symm x z) i) xs) in
                ap (λ n. list_any (same x) (cond (eqb n 1) (repeated same xs ++ y ∷ []) (repeated same xs))) alike
                ∙ at (count x xs) before ∙ ap (ltb 1) (sym (count-push x xs y true e))
              where
                at : (n : ℕ) → list_any (same x) (repeated same xs) ≡ ltb 1 n
                    → list_any (same x) (cond (eqb n 1) (repeated same xs ++ y ∷ []) (repeated same xs)) ≡ ltb 1 (n + 1)
                at zero h = h
                at (suc zero) h = list_any-append (same x) (repeated same xs) (y ∷ []) ∙ or_right _ _ (ap (λ b. b || false) (laws.symm x y ∙ e))
                at (suc (suc n)) h =
                    ap (λ b. list_any (same x) (cond b (repeated same xs ++ y ∷ []) (repeated same xs))) (ne_eqb (suc (suc n)) 1 (λ e. omega (arith, e)))
                    ∙ h ∙ lt-ltb 1 (suc (suc n)) (omega arith) ∙ sym (lt-ltb 1 (suc (suc n) + 1) (omega arith))
            go false e = other (eqb (count y xs) 1) ∙ before ∙ ap (ltb 1) (sym (count-push x xs y false e))
              where
                other : (b : Bool) → list_any (same x) (cond b (repeated same xs ++ y ∷ []) (repeated same xs)) ≡ list_any (same x) (repeated same xs)
                other true = list_any-append (same x) (repeated same xs) (y ∷ []) ∙ or_unless _ _ (laws.symm x y ∙ e)
                other false = refl

    any-count : (x : A) (xs : List A) → list_any (same x) xs ≡ ltb 0 (count x xs)
    any-count x [] = refl
    any-count x (y ∷ xs) = ap (λ b. b || list_any (same x) xs) (laws.symm x y) ∙ go (same y x) (any-count x xs)
      where
        go : (b : Bool) → list_any (same x) xs ≡ ltb 0 (count x xs) → (b || list_any (same x) xs) ≡ ltb 0 (length (cond b (y ∷ filter (λ z. same z x) xs) (filter (λ z. same z x) xs)))
        go true rest = sym (lt-ltb 0 _ (omega arith))
        go false rest = rest

    -- what is repeated is there
    pub repeated-some : (xs : List A) → All (λ x. 0 < count x xs) (repeated same xs)
    repeated-some xs = All-repeated (λ x. 0 < count x xs) xs (λ k d within.
        ltb-true 0 _ (sym (any-count (get_or xs k d) xs) ∙ list_any_at (same (get_or xs k d)) xs k d within (laws.refl (get_or xs k d))))

    -- one more element is put at the end if an earlier one is the same, unless it is there already
    pub repeated-unless : (xs : List A) (x : A) (again : Bool) → list_any (same x) xs ≡ again
        → repeated same (xs ++ x ∷ []) ≡ cond again (pushed_unless (list_any (same x) (repeated same xs)) (repeated same xs) x) (repeated same xs)
    repeated-unless xs x again e = repeated-push xs x ∙ go (count x xs) (sym e ∙ any-count x xs) (repeated-known x xs)
      where
        all : List A
        all = repeated same xs

        go : (n : ℕ) → again ≡ ltb 0 n → list_any (same x) all ≡ ltb 1 n → cond (eqb n 1) (all ++ x ∷ []) all ≡ cond again (pushed_unless (list_any (same x) all) all x) all
        go zero f h = ap (λ b. cond b (pushed_unless (list_any (same x) all) all x) all) (sym f)
        go (suc zero) f h = λ i. cond (sym f i) (pushed_unless (sym h i) all x) all
        go (suc (suc n)) f h =
            let some : again ≡ true = f ∙ lt-ltb 0 (suc (suc n)) (omega arith) in
            let there : list_any (same x) all ≡ true = h ∙ lt-ltb 1 (suc (suc n)) (omega arith) in
            ap (λ b. cond b (all ++ x ∷ []) all) (ne_eqb (suc (suc n)) 1 (λ e. omega (arith, e)))
            ∙ (λ i. cond (sym some i) (pushed_unless (sym there i) all x) all)
