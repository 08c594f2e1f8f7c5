-- A stack that contains each number at most once: one number more, and one less.
use Rattle.std.proofs.Common.{◌≡◌, ℕ, ◌+◌, ◌<◌, ◌==◌, Bool, true, false, cond, eqb, List, [], ◌∷◌, ◌++◌, length, get_or, slice_set, slice_get, Some, count_by, arith, refl, sym, ap, ◌∙◌, subst, true≢false, length-set, replicate, zero, suc, eq-eqb, get_or-set_same, get_or-set_other, inl, inr}
use Rattle.std.proofs.lemmas.Bool.{cases_eq, ne_eqb}
use Rattle.std.proofs.lemmas.List.{length_push, set-get_or, set-set}
use Rattle.std.proofs.lemmas.List.Sorted.{length_permutation, sum_by-IsPermutation}
use Rattle.std.proofs.lemmas.List.Sums.{sum_by-cons, sum_by_push, sum_by-set, count_by-le-length}
use Rattle.std.proofs.lemmas.Option.{get_or_from_slice_get}
use Rattle.lemmas.proofs.Elements.{within_from_get_or, set-slice_get}
use Rattle.std.specs.List.Sorted.{IsPermutation}
use Rattle.cfgsets.specs.Table.{bits_on}
use Rattle.cfgsets.specs.Waiting.{waits, Waits, IsStack}
use Rattle.search.proofs.Bits.{bits_on-set}

-- one bit fewer
pub bits_on-clear : (l : List Bool) (n : ℕ) → n < length l → get_or l n false ≡ true → bits_on (slice_set l n false) + 1 ≡ bits_on l
bits_on-clear l n h on =
    let e = sum_by-set (λ (b : Bool). cond b 1 0) l n false false h in
    let z : ◌≡◌ {A = ℕ} (cond (get_or l n false) 1 0) 1 = ap (λ b. cond b 1 0) on in
    omega (arith, e, z)

pub bits_on-none : (bound : ℕ) → bits_on (replicate bound false) ≡ 0
bits_on-none zero = refl
bits_on-none (suc n) = let e = sum_by-cons (λ (b : Bool). cond b 1 0) false (replicate n false) in omega (arith, e, bits_on-none n)

-- how often a number waits after one was pushed
turned : (x : List Bool) (n m : ℕ) → n < length x → waits x n ≡ false → ◌≡◌ {A = ℕ} (cond (waits (slice_set x n true) m) 1 0) (cond (waits x m) 1 0 + cond (eqb n m) 1 0)
turned x n m lt off = elim (cases_eq m n) [
  | inl e ↦
      let was : ◌≡◌ {A = ℕ} (cond (waits x m) 1 0) 0 = ap (λ b. cond b 1 0) (ap (waits x) e ∙ off) in
      let own : ◌≡◌ {A = ℕ} (cond (eqb n m) 1 0) 1 = ap (λ b. cond b 1 0) (eq-eqb n m (sym e)) in
      let on : ◌≡◌ {A = ℕ} (cond (waits (slice_set x n true) m) 1 0) 1 =
      ap (λ b. cond b 1 0) (ap (waits (slice_set x n true)) e ∙ get_or-set_same x n true false lt) in
      omega (arith, was, own, on)
  | inr ne ↦
      let other : ◌≡◌ {A = ℕ} (cond (eqb n m) 1 0) 0 = ap (λ b. cond b 1 0) (ne_eqb n m (λ i. ne (sym i))) in
      let same : ◌≡◌ {A = ℕ} (cond (waits (slice_set x n true) m) 1 0) (cond (waits x m) 1 0) =
      ap (λ b. cond b 1 0) (get_or-set_other x n m true false ne) in
      omega (arith, other, same)
]

module _ (x : List Bool) (stack : List ℕ) (is : IsStack x stack) where
  -- if a number doesn't wait, there is room for it
  pub stack_room : (n : ℕ) → n < length x → slice_get x n ≡ Some false → length stack < length x
  stack_room n lt off =
      let e = bits_on-set x n lt (get_or_from_slice_get x n false false off) in
      let most = count_by-le-length (λ (b : Bool). b) (slice_set x n true) in
      let k = is.together in
      omega (arith, e, most, k, length-set x n true)

  pub stack_put : (n : ℕ) → n < length x → slice_get x n ≡ Some false → IsStack (slice_set x n true) (stack ++ n ∷ [])
  stack_put n lt off = record {
    once = λ m. let k = is.once m in omega (arith, k, sum_by_push (λ k. cond (eqb k m) 1 0) stack n, turned x n m lt here);
    together = let e = bits_on-set x n lt here in let l = length_push stack n in let k = is.together in omega (arith, e, l, k);
  }
    where
      here : waits x n ≡ false
      here = get_or_from_slice_get x n false false off

  -- a number that waits isn't pushed again
  pub stack_again : (n : ℕ) → slice_get x n ≡ Some true → IsStack (slice_set x n true) stack
  stack_again n on = subst (λ l. IsStack l stack) (sym (set-slice_get x n true on)) is

  module _ (n : ℕ) (rest : List ℕ) (last : stack ≡ rest ++ n ∷ []) where
    counted : (m : ℕ) → count_by (λ k. eqb k m) rest + cond (eqb n m) 1 0 ≡ cond (waits x m) 1 0
    counted m = sym (sum_by_push (λ k. cond (eqb k m) 1 0) rest n) ∙ ap (λ l. count_by (λ k. eqb k m) l) (sym last) ∙ is.once m

    pub last_waits : Waits x n
    last_waits = on (waits x n) (counted n)
      where
        on : (b : Bool) → count_by (λ k. eqb k n) rest + cond (eqb n n) 1 0 ≡ cond b 1 0 → b ≡ true
        on true h = refl
        on false h =
            let own : ◌≡◌ {A = ℕ} (cond (eqb n n) 1 0) 1 = ap (λ b. cond b 1 0) (eq-eqb n n refl) in
            absurd (omega (arith, h, own))

    pub last_within : n < length x
    last_within = within_from_get_or x n false (λ e. true≢false (sym last_waits ∙ e))

    pub stack_next : IsStack (slice_set x n false) rest
    stack_next = record {
      once = λ m. omega (arith, counted m, turned (slice_set x n false) n m within off, ap {B = ℕ} (λ l. cond (waits l m) 1 0) back);
      together =
          let k = is.together in
          omega (arith, bits_on-set (slice_set x n false) n within off, ap bits_on back, k, ap length last, length_push rest n);
    }
      where
        within : n < length (slice_set x n false)
        within = subst (λ k. n < k) (sym (length-set x n false)) last_within

        off : waits (slice_set x n false) n ≡ false
        off = get_or-set_same x n false false last_within

        back : slice_set (slice_set x n false) n true ≡ x
        back = set-set x n false true ∙ ap (slice_set x n) (sym last_waits) ∙ set-get_or x n false

-- the same numbers in another order
pub stack_permuted : (x : List Bool) (stack stack' : List ℕ) → IsStack x stack → IsPermutation stack stack' → IsStack x stack'
stack_permuted x stack stack' w permuted = record {
  once = λ n. sum_by-IsPermutation (λ m. cond (m == n) 1 0) stack stack' permuted ∙ w.once n;
  together = length_permutation stack stack' permuted ∙ w.together;
}
