-- Lists of the code, seen through a function that shows their elements.
use Rattle.std.proofs.Common.{◌≡◌, ℕ, suc, ◌+◌, ◌<◌, ◌≤◌, List, ◌∷◌, length, map, take, drop, get_or, All, sym, ap, subst, ◌∙◌, add-one, drop-cons}
use Rattle.std.proofs.lemmas.List.{get_or-map, length-map, take_all}
use Rattle.std.proofs.lemmas.List.Elements.{All-more, All-get_or}

module _ {A B : Type 0} (f : A → B) (xs : List A) where
  module _ (i : ℕ) (x : A) (within : i < length xs) (is : x ≡ get_or xs i x) where
    pub shown_at : get_or (map f xs) i (f x) ≡ f x
    shown_at = get_or-map f xs i x (f x) within ∙ ap f (sym is)

    pub shown_within : i < length (map f xs)
    shown_within = subst (λ n. i < n) (sym (length-map xs f)) within

    pub next_shown : map f (drop i xs) ≡ f x ∷ map f (drop (i + 1) xs)
    next_shown = ap (map f) (drop-cons xs i x within ∙ ap (λ y. y ∷ drop (suc i) xs) (sym is)) ∙ ap (λ n. f x ∷ map f (drop n xs)) (sym (add-one i))

    pub shown_holds : (P : B → Type 0) → All P (map f xs) → P (f x)
    shown_holds P all = subst P shown_at (All-get_or P (map f xs) i (f x) shown_within all)

    pub shown_more : (P : B → Type 0) → All P (take i (map f xs)) → P (f x) → All P (take (i + 1) (map f xs))
    shown_more P all here = All-more P (map f xs) i (f x) shown_within all (subst P (sym shown_at) here)

  pub shown_all : (P : B → Type 0) (i : ℕ) → length xs ≤ i → All P (take i (map f xs)) → All P (map f xs)
  shown_all P i past all = subst (All P) (take_all i (map f xs) (subst (λ n. n ≤ i) (sym (length-map xs f)) past)) all

-- an element, and a write, seen through the function that shows the elements
pub item_shown : {A B : Type 0} (f : A → B) (xs : List A) (ys : List B) (i : ℕ) (x : A) (d : B) → map f xs ≡ ys → i < length ys → x ≡ get_or xs i x
    → get_or ys i d ≡ f x
item_shown f xs ys i x d shown within is = ap (λ l. get_or l i d) (sym shown)
    ∙ get_or-map f xs i x d (subst (λ n. i < n) (sym (ap length shown) ∙ length-map xs f) within) ∙ ap f (sym is)
