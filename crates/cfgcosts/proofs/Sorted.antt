-- Words of the code that were sorted, each once: as lists of numbers they are in lexicographic order.
use Rattle.std.proofs.Common.{◌≡◌, ◌↔◌, ◌+◌, ◌<◌, ◌≤◌, inl, inr, ℕ, Bool, List, Vec, [], ◌∷◌, drop, get_or, length, map, take, Contains, arith, refl, sym, ap, subst, ◌∙◌}
use Rattle.std.specs.declared.cmp.Ordering.{Ordering}
use Rattle.std.specs.declared.cmp.Ordering.TheVariants.{Less, Equal, Greater}
use Rattle.std.specs.Ordering.{eq_by_cmp, is_eq, is_lt, nat_cmp, on, ordering_then}
use Rattle.std.specs.Cmp.{IsEquivalence, IsTotalOrder, eq_by_cmp_equiv}
use Rattle.std.specs.Cmp.Lexicographic.{slice_cmp}
use Rattle.std.specs.List.{AllByRecursion, dedup}
use Rattle.std.specs.List.Retain.{DiffersFromLast, IsFiltered}
use Rattle.std.specs.List.Sorted.{IsPermutation, IsSorted, IsStrictlySortedBy}
use Rattle.std.proofs.lemmas.Cmp.{nat_list_cmp_total, on_total}
use Rattle.std.proofs.lemmas.List.{get_or-take, length-take, take-append-drop, take-map, take_all}
use Rattle.std.proofs.lemmas.List.Elements.{All-contains, Contains-append_left, Contains-get_or}
use Rattle.std.proofs.lemmas.List.Filters.{dedup_is}
use Rattle.std.proofs.lemmas.List.Kept.{Any-dedup, Contains-from_dedup, IsStrictlySortedBy-dedup}
use Rattle.std.proofs.lemmas.List.Sorted.{Contains-permutation, IsPermutation-map, IsPermutation-sym}
use Rattle.lemmas.proofs.Contained.{contains_cases, contains_mapped, contains_none, contains_source}
use Rattle.std.proofs.lemmas.Map.Keys.{Less-from_sorted, sorted_from_all_adjacent}
use Rattle.std.proofs.lemmas.Map.Views.{All-after_first}
use Rattle.std.specs.declared.alloc.Global.{Global}
use Rattle.cfgindex.specs.declared.idxnewtype.TIdx.{TIdx}
use Rattle.derivation.specs.Grammar.{Sym}
use Rattle.derivation.specs.Costs.{Minimal}
use Rattle.cfgchoices.specs.FirstSentence.{FirstMinimal, lexicographic}
use Rattle.cfgcosts.specs.Sentences.{numbers_of}
use Rattle.std.specs.Cmp.{Equal-is}
use Rattle.std.proofs.lemmas.Map.Lookups.{exact_bytes}

pub order_shown : {A : Type 0} (cmp : A → A → Ordering) (f : A → ℕ) → ((x y : A) → cmp x y ≡ nat_cmp (f x) (f y)) → (v w : List A) → slice_cmp cmp v w ≡ lexicographic (map f v) (map f w)
order_shown cmp f same [] [] = refl
order_shown cmp f same [] (y ∷ w) = refl
order_shown cmp f same (x ∷ v) [] = refl
order_shown cmp f same (x ∷ v) (y ∷ w) = ap (λ o. ordering_then o (slice_cmp cmp v w)) (same x y) ∙ ap (ordering_then (nat_cmp (f x) (f y))) (order_shown cmp f same v w)

module _ {K : Type 0} (f : K → List ℕ) where
  abbrev by_words : K → K → Ordering
  by_words = on f lexicographic

  all_less : (k : K) (xs : List K) → AllByRecursion (λ y. by_words k y ≡ Less) xs → AllByRecursion (λ y. lexicographic (f k) y ≡ Less) (map f xs)
  all_less k [] g = tt
  all_less k (x ∷ xs) g = (g.0, all_less k xs g.1)

  -- in another order they are the same words
  pub moved_words : (keys moved : List K) → IsPermutation keys moved → (w : List ℕ) → Contains (map f moved) w ↔ Contains (map f keys) w
  moved_words keys moved p w =
      let q = IsPermutation-map f keys moved p in
      (Contains-permutation (map f moved) (map f keys) w (IsPermutation-sym (map f keys) (map f moved) q), Contains-permutation (map f keys) (map f moved) w q)

  sorted_shown : (keys : List K) → IsStrictlySortedBy by_words keys → IsStrictlySortedBy lexicographic (map f keys)
  unfolding IsStrictlySortedBy
  sorted_shown [] h = tt
  sorted_shown (k ∷ keys) h = (all_less k keys h.0, sorted_shown keys h.1)

  module _ (cmp : K → K → Ordering) (eq : K → K → Bool) (shown : (v w : K) → cmp v w ≡ lexicographic (f v) (f w)) (ties : (v w : K) → eq v w ≡ eq_by_cmp cmp v w) where
    total : IsTotalOrder by_words
    total = on_total f nat_list_cmp_total

    reported : (v w : K) → eq v w ≡ eq_by_cmp by_words v w
    reported v w = ties v w ∙ ap is_eq (shown v w)

    equal : IsEquivalence eq
    equal = let e = eq_by_cmp_equiv total in record {
      refl = λ v. reported v v ∙ e.refl v;
      symm = λ v w. reported v w ∙ e.symm v w ∙ sym (reported w v);
      congr = λ u v w h. reported u w ∙ e.congr u v w (sym (reported u v) ∙ h) ∙ sym (reported v w);
    }

    module _ (sorted once : List K) (order : IsSorted cmp sorted) (filtered : IsFiltered (DiffersFromLast eq) [] sorted once) where
      pub in_order : IsStrictlySortedBy lexicographic (map f once)
      in_order = sorted_shown once (subst (IsStrictlySortedBy by_words) (sym (dedup_is eq sorted once filtered))
          (IsStrictlySortedBy-dedup total reported sorted (λ k d low high. ap is_lt (sym (shown _ _)) ∙ order k d low high)))

      pub same_words : (words : List K) → IsPermutation words sorted → (w : List ℕ) → Contains (map f once) w ↔ Contains (map f words) w
      same_words words moved w =
          let same = moved_words words sorted moved w in (
            (λ h.
                let (v, among, is) = contains_source f once w h in
                let before = Contains-from_dedup eq sorted v (subst (λ l. Contains l v) (dedup_is eq sorted once filtered) among) in
                same.0 (subst (Contains (map f sorted)) is (contains_mapped f sorted v before))),
            (λ h.
                let (v, among, is) = contains_source f sorted w (same.1 h) in
                let (k, u, lt, at, equals) = Any-dedup equal sorted v among in
                let there = subst (Contains (dedup eq sorted)) at (Contains-get_or (dedup eq sorted) k u lt) in
                subst (Contains (map f once)) (sym (exact_bytes (f v) (f u) ((Equal-is (lexicographic (f v) (f u))).0 (sym (reported v u) ∙ equals))) ∙ is)
                (contains_mapped f once u (subst (λ l. Contains l u) (sym (dedup_is eq sorted once filtered)) there))),
          )

-- (cited by wrong bodies alone, from here on) of all minimal sentences, listed in lexicographic order, each is minimal, and the first is the
-- first minimal one
module _ {S : Type 0} (number : S → ℕ) (P : ℕ → List Sym → Type 0) (cost : ℕ → ℕ) (r : ℕ) where
  pub listed_minimal : (sentences : List (Vec (TIdx S) Global)) → ((w : List ℕ) → Contains (map (numbers_of number) sentences) w ↔ Minimal P cost r w)
      → (i : ℕ) (word : Vec (TIdx S) Global) → i < length sentences → word ≡ get_or sentences i word → Minimal P cost r (numbers_of number word)
  listed_minimal sentences all i word within is = (all (numbers_of number word)).0 (contains_mapped (numbers_of number) sentences word (i, within, sym is))

  none_before : (sentences : List (Vec (TIdx S) Global)) (word : Vec (TIdx S) Global) (v : List ℕ) → IsStrictlySortedBy lexicographic (map (numbers_of number) sentences)
      → word ≡ get_or sentences 0 word → Contains (map (numbers_of number) sentences) v → lexicographic (numbers_of number word) v ≡ Greater → ⊥
  none_before [] word v order is h g = contains_none v h
  none_before (first ∷ others) word v order is h g = elim (contains_cases (numbers_of number first) v (map (numbers_of number) others) h) [
    | inl same ↦
        let one = ap (numbers_of number) is ∙ same in
        let equal = (Equal-is (lexicographic v v)).0 ((eq_by_cmp_equiv nat_list_cmp_total).refl v) in
        let no : ◌≡◌ {A = Ordering} Equal Greater = sym equal ∙ ap (λ l. lexicographic l v) (sym one) ∙ g in cc
    | inr later ↦
        let less = All-contains (λ q. lexicographic (numbers_of number first) q ≡ Less) (map (numbers_of number) others) v
        (All-after_first lexicographic (numbers_of number first) (map (numbers_of number) others) order) later in
        let no : ◌≡◌ {A = Ordering} Less Greater = sym less ∙ ap (λ l. lexicographic (numbers_of number l) v) (sym is) ∙ g in cc
  ]

  pub first_listed : (sentences : List (Vec (TIdx S) Global)) → ((w : List ℕ) → Contains (map (numbers_of number) sentences) w ↔ Minimal P cost r w)
      → IsStrictlySortedBy lexicographic (map (numbers_of number) sentences) → (word : Vec (TIdx S) Global) → 0 < length sentences → word ≡ get_or sentences 0 word
      → FirstMinimal P cost r (numbers_of number word)
  first_listed sentences all order word within is =
      (listed_minimal sentences all 0 word within is, λ v m g. none_before sentences word v order is ((all v).1 m) g)

sorted_take : (n : ℕ) (words : List (List ℕ)) → IsStrictlySortedBy lexicographic words → IsStrictlySortedBy lexicographic (take n words)
sorted_take n words order = sorted_from_all_adjacent nat_list_cmp_total (take n words) [] (λ k lt.
    let long = length-take n words in
    let short : k + 1 < n = omega (arith, lt, long) in
    let inside : k < n = omega (arith, short) in
    ap (λ w. lexicographic w (get_or (take n words) (k + 1) [])) (get_or-take n words k [] inside)
    ∙ ap (lexicographic (get_or words k [])) (get_or-take n words (k + 1) [] short)
    ∙ Less-from_sorted lexicographic words k (k + 1) [] order (omega arith) (omega (arith, lt, long)))

-- of keys whose words are in lexicographic order, those up to a number
module _ {K : Type 0} (f : K → List ℕ) (keys kept : List K) (n : ℕ) (is : kept ≡ take n keys) where
  pub kept_sorted : IsStrictlySortedBy lexicographic (map f keys) → IsStrictlySortedBy lexicographic (map f kept)
  kept_sorted order = subst (λ l. IsStrictlySortedBy lexicographic (map f l)) (sym is) (subst (IsStrictlySortedBy lexicographic) (take-map f n keys) (sorted_take n (map f keys) order))

  pub kept_listed : (v : List ℕ) → Contains (map f kept) v → Contains (map f keys) v
  kept_listed v h = subst (λ l. Contains l v) (take-append-drop n (map f keys)) (Contains-append_left (take n (map f keys)) (drop n (map f keys)) v
      (subst (λ l. Contains l v) (sym (take-map f n keys)) (subst (λ l. Contains (map f l) v) is h)))

  pub all_kept : length keys ≤ n → (v : List ℕ) → Contains (map f keys) v → Contains (map f kept) v
  all_kept few v h = subst (λ l. Contains (map f l) v) (sym (is ∙ take_all n keys few)) h
