-- Each element once, and the insertion of a key: it is put at the end if no key is the same.
use Rattle.std.proofs.Common.{◌≡◌, Bool, true, false, cond, not, ◌||◌, List, [], ◌∷◌, ◌++◌, map, filter, refl, sym, ap, ◌∙◌}
use Rattle.std.specs.Cmp.{IsEquivalence}
use Rattle.std.specs.List.{list_any}
use Rattle.std.proofs.lemmas.List.Folds.{list_any-append}
use Rattle.lemmas.specs.Lists.{with_prefixes, pushed_unless}
use Rattle.lemmas.proofs.Prefixes.{with_prefixes-push}
use Rattle.lemmas.proofs.Growing.{from_pushes}
use Rattle.lemmas.proofs.Pushed.{map-pushed_unless}
use Rattle.lemmas.proofs.Repeats.{filtered-push}
use Rattle.lemmas.proofs.Tests.{list_any_weaker}
use Rattle.indexmap.specs.IndexSet.{insert_key}
use Rattle.cfgitems.specs.Syntax.{each_once}

module _ {A : Type 0} (same : A → A → Bool) where
  pub each_once-push : (xs : List A) (x : A) → each_once same (xs ++ x ∷ []) ≡ pushed_unless (list_any (same x) xs) (each_once same xs) x
  each_once-push xs x =
      ap (λ t. map second (filter is_new t)) (with_prefixes-push xs x) ∙ filtered-push second is_new (with_prefixes xs) (xs, x)
      ∙ go (list_any (same x) xs)
    where
      second : List A × A → A
      second x = x.1

      is_new : List A × A → Bool
      is_new x = not (list_any (same x.1) x.0)

      go : (known : Bool) → cond (not known) (each_once same xs ++ x ∷ []) (each_once same xs) ≡ pushed_unless known (each_once same xs) x
      go true = refl
      go false = refl

  -- a test that doesn't distinguish elements that are the same passes one of all exactly if it passes one of those that remain
  pub any_once : (is : A → Bool) → ((x y : A) → same x y ≡ true → is x ≡ is y) → (xs : List A) → list_any is (each_once same xs) ≡ list_any is xs
  any_once is alike = from_pushes (λ xs. list_any is (each_once same xs) ≡ list_any is xs) refl more
    where
      or_known : (a b : Bool) → (b ≡ true → a ≡ true) → a ≡ (a || (b || false))
      or_known true b h = refl
      or_known false true h = h refl
      or_known false false h = refl

      more : (xs : List A) (x : A) → list_any is (each_once same xs) ≡ list_any is xs → list_any is (each_once same (xs ++ x ∷ [])) ≡ list_any is (xs ++ x ∷ [])
      more xs x before = ap (list_any is) (each_once-push xs x) ∙ go (list_any (same x) xs) refl ∙ sym (list_any-append is xs (x ∷ []))
        where
          go : (known : Bool) → list_any (same x) xs ≡ known → list_any is (pushed_unless known (each_once same xs) x) ≡ (list_any is xs || (is x || false))
          go true known = before ∙ or_known _ _ (λ e. list_any_weaker (same x) is (λ y h. sym (alike x y h) ∙ e) xs known)
          go false known = list_any-append is (each_once same xs) (x ∷ []) ∙ ap (λ a. a || (is x || false)) before

  pub known_once : IsEquivalence same → (k : A) (xs : List A) → list_any (same k) (each_once same xs) ≡ list_any (same k) xs
  known_once laws k = any_once (same k) (λ x y e. laws.symm k x ∙ laws.congr x y k e ∙ laws.symm y k)

-- keys that show each element once, and one more key
module _ {K A : Type 0} (eq : K → K → Bool) (same : A → A → Bool) (laws : IsEquivalence same) (show : K → A)
    (shows : (x y : K) → eq x y ≡ same (show x) (show y)) where
  any_shown : (k : K) (keys : List K) → list_any (eq k) keys ≡ list_any (same (show k)) (map show keys)
  any_shown k [] = refl
  any_shown k (x ∷ keys) = λ i. shows k x i || any_shown k keys i

  -- whether the key is among them
  pub key_known : (k : K) (keys : List K) (xs : List A) → map show keys ≡ each_once same xs → list_any (eq k) keys ≡ list_any (same (show k)) xs
  key_known k keys xs once = any_shown k keys ∙ ap (list_any (same (show k))) once ∙ known_once same laws (show k) xs

  pub key_inserted : (k : K) (keys : List K) (xs : List A) → map show keys ≡ each_once same xs → map show (insert_key eq keys k) ≡ each_once same (xs ++ show k ∷ [])
  key_inserted k keys xs once =
      map-pushed_unless show (list_any (eq k) keys) keys k
      ∙ (λ i. pushed_unless (key_known k keys xs once i) (once i) (show k))
      ∙ sym (each_once-push same xs (show k))
