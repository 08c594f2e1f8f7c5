-- Concatenated lists are cut out of their items by the indices at which they end.
use Rattle.std.proofs.Common.{◌≡◌, ℕ, zero, suc, ◌+◌, ◌-◌, ◌<◌, ◌≤◌, List, [], ◌∷◌, ◌++◌, length, get_or, slice_get, slice_range, take, drop, Some, arith, refl, sym, ap, subst, ◌∙◌, length-append}
use Rattle.std.proofs.Math.Seq.{drop-append_seam}
use Rattle.std.proofs.lemmas.List.{drop-append-le, length-drop, take_all, take-append-le}
use Rattle.cfgnumbers.specs.Inner.Lists.{AreEnds, lists_between}

pub lists_between-length : {A : Type 0} (items : List A) (start : ℕ) (ends : List ℕ) → length (lists_between items start ends) ≡ length ends
lists_between-length items start [] = refl
lists_between-length items start (end ∷ ends) =
    let rest = lists_between-length items end ends in
    grind (arith, rest)

-- the first list, and a later one
pub first_between : {A : Type 0} (items : List A) (start : ℕ) (ends : List ℕ) (d : ℕ) → 0 < length ends
    → slice_get (lists_between items start ends) 0 ≡ Some (slice_range items start (get_or ends 0 d))
first_between items start [] d lt = absurd (omega (arith, lt))
first_between items start (end ∷ ends) d lt = refl

pub next_between : {A : Type 0} (items : List A) (start : ℕ) (ends : List ℕ) (k d e : ℕ) → suc k < length ends
    → slice_get (lists_between items start ends) (suc k) ≡ Some (slice_range items (get_or ends k d) (get_or ends (suc k) e))
next_between items start [] k d e lt = absurd (omega (arith, lt))
next_between items start (end ∷ ends) zero d e lt = first_between items end ends e (omega (arith, lt))
next_between items start (end ∷ ends) (suc k) d e lt = next_between items end ends k d e (omega (arith, lt))

-- the indices are between start and the last, in ascending order
pub ends_in_order : (start last : ℕ) (ends : List ℕ) → AreEnds start last ends → start ≤ last
ends_in_order start last [] are = subst (λ n. start ≤ n) are (omega arith)
ends_in_order start last (end ∷ ends) are =
    let rest = ends_in_order end last ends are.1 in
    omega (arith, are.0, rest)

pub first_end : (start last : ℕ) (ends : List ℕ) (d : ℕ) → AreEnds start last ends → 0 < length ends → (start ≤ get_or ends 0 d) × (get_or ends 0 d ≤ last)
first_end start last [] d are lt = absurd (omega (arith, lt))
first_end start last (end ∷ ends) d are lt = (are.0, ends_in_order end last ends are.1)

pub next_end : (start last : ℕ) (ends : List ℕ) (k d e : ℕ) → AreEnds start last ends → suc k < length ends → (get_or ends k d ≤ get_or ends (suc k) e) × (get_or ends (suc k) e ≤ last)
next_end start last [] k d e are lt = absurd (omega (arith, lt))
next_end start last (end ∷ ends) zero d e are lt = first_end end last ends e are.1 (omega (arith, lt))
next_end start last (end ∷ ends) (suc k) d e are lt = next_end end last ends k d e are.1 (omega (arith, lt))

-- what is read of the list with an index: where it begins, where it ends, and what it is
module _ {A : Type 0} (items : List A) (ends : List ℕ) (are : AreEnds 0 (length items) ends) (xs : List (List A)) (shown : lists_between items 0 ends ≡ xs) (index : ℕ) (lt : index < length xs) where
  pub within : index < length ends
  within = omega (arith, lt, ap length shown, lists_between-length items 0 ends)

  module _ (end : ℕ) (end_is : end ≡ get_or ends index end) where
    pub at_first : index ≡ 0 → (end ≤ length items) × (slice_get xs index ≡ Some (slice_range items 0 end))
    at_first is =
        let some : 0 < length ends = omega (arith, within) in
        let at : end ≡ get_or ends 0 end = end_is ∙ ap (λ k. get_or ends k end) is in
        let order = first_end 0 (length items) ends end are some in (
          omega (arith, at, order.1),
          ap (λ l. slice_get l index) (sym shown) ∙ ap (slice_get (lists_between items 0 ends)) is ∙ first_between items 0 ends end some
              ∙ ap (λ k. Some (slice_range items 0 k)) (sym at),
        )

    pub at_next : (start : ℕ) → 0 < index → start ≡ get_or ends (index - 1) start
        → (start ≤ end) × (end ≤ length items) × (slice_get xs index ≡ Some (slice_range items start end))
    at_next start some start_is =
        let is : index ≡ suc (index - 1) = omega (arith, some) in
        let more : suc (index - 1) < length ends = omega (arith, within, some) in
        let at : end ≡ get_or ends (suc (index - 1)) end = end_is ∙ ap (λ k. get_or ends k end) is in
        let order = next_end 0 (length items) ends (index - 1) start end are more in (
          omega (arith, start_is, at, order.0),
          omega (arith, at, order.1),
          ap (λ l. slice_get l index) (sym shown) ∙ ap (slice_get (lists_between items 0 ends)) is ∙ next_between items 0 ends (index - 1) start end more
              ∙ (λ i. Some (slice_range items (sym start_is i) (sym at i))),
        )

-- one more list
module _ {A : Type 0} (items more : List A) where
  -- what is between existing indices stays
  range_stays : (start end : ℕ) → start ≤ end → end ≤ length items → slice_range (items ++ more) start end ≡ slice_range items start end
  range_stays start end le within =
      ap (take (end - start)) (drop-append-le start items more (omega (arith, le, within)))
      ∙ take-append-le (end - start) (drop start items) more (omega (arith, le, within, length-drop start items))

  module _ (last : ℕ) (is_last : last ≡ length items + length more) where
    ends-push : (start : ℕ) (ends : List ℕ) → AreEnds start (length items) ends → AreEnds start last (ends ++ last ∷ [])
    ends-push start [] are = (omega (arith, are, is_last), refl)
    ends-push start (end ∷ ends) are = (are.0, ends-push end ends are.1)

    lists-push : (start : ℕ) (ends : List ℕ) → AreEnds start (length items) ends
        → lists_between (items ++ more) start (ends ++ last ∷ []) ≡ lists_between items start ends ++ more ∷ []
    lists-push start [] are =
        ap (λ xs. xs ∷ []) (
        (λ i. slice_range (items ++ more) (are i) (is_last i))
        ∙ ap (take (length items + length more - length items)) (drop-append_seam items more)
        ∙ take_all (length items + length more - length items) more (omega arith)
        )
    lists-push start (end ∷ ends) are =
        let within = ends_in_order end (length items) ends are.1 in
        (λ i. range_stays start end are.0 within i ∷ lists-push end ends are.1 i)

    -- they are the lists from before, followed by the one that was added
    pub pushed : (start : ℕ) (ends ends' : List ℕ) (items' : List A) → AreEnds start (length items) ends → items' ≡ items ++ more → ends' ≡ ends ++ last ∷ []
        → (lists_between items' start ends' ≡ lists_between items start ends ++ more ∷ []) × AreEnds start (length items') ends'
    pushed start ends ends' items' are items_are ends_are =
        let long : last ≡ length items' = is_last ∙ sym (ap length items_are ∙ length-append items more) in (
          (λ i. lists_between (items_are i) start (ends_are i)) ∙ lists-push start ends are,
          subst (λ n. AreEnds start n ends') long (subst (AreEnds start last) (sym ends_are) (ends-push start ends are)),
        )
