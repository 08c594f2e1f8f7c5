-- Bits of a list: turning one on, and how many are on.
use Rattle.std.proofs.Common.{◌≡◌, ◌↔◌, ◌⊎◌, inl, inr, ℕ, ◌+◌, ◌<◌, ◌≤◌, Bool, true, false, cond, List, [], ◌∷◌, length, get_or, slice_set, count_by, arith, refl, suc, sym, ap, ◌∙◌, true≢false, get_or-set_same}
use Rattle.std.proofs.lemmas.List.Sums.{sum_by-set, sum_by-cons}
use Rattle.lemmas.proofs.Elements.{get_or-set}

pub bit_put : (bits : List Bool) (n : ℕ) → n < length bits → (k : ℕ) → (get_or (slice_set bits n true) k false ≡ true) ↔ ((get_or bits k false ≡ true) ⊎ (k ≡ n))
bit_put bits n lt k = (
  (λ h. elim (get_or-set bits n k true false) [ inl e ↦ inl (sym e ∙ h) | inr e ↦ inr e.0 ]),
  (λ h. elim h [
    | inl i ↦ elim (get_or-set bits n k true false) [ inl e ↦ e ∙ i | inr e ↦ e.1 ]
    | inr e ↦ ap (λ j. get_or (slice_set bits n true) j false) e ∙ get_or-set_same bits n true false lt
  ]),
)

pub bits_on-set : (l : List Bool) (c : ℕ) → c < length l → get_or l c false ≡ false → count_by (λ b. b) (slice_set l c true) ≡ count_by (λ b. b) l + 1
bits_on-set l c h off =
    let e = sum_by-set (λ (b : Bool). cond b 1 0) l c true false h in
    let z : ◌≡◌ {A = ℕ} (cond (get_or l c false) 1 0) 0 = ap (λ b. cond b 1 0) off in
    omega (arith, e, z)

count-cons : (b : Bool) (l : List Bool) → count_by (λ b. b) (b ∷ l) ≡ cond b 1 0 + count_by (λ b. b) l
count-cons b l = sum_by-cons (λ (b : Bool). cond b 1 0) b l

one-fewer : (x y : Bool) → (x ≡ true → y ≡ true) → ◌≤◌ (cond x 1 0) (cond y 1 0)
one-fewer true true f = omega arith
one-fewer true false f = absurd (true≢false (sym (f refl)))
one-fewer false true f = omega arith
one-fewer false false f = omega arith

-- if each bit that is on is also on in the other list, no more bits are on
pub bits_on-fewer : (a b : List Bool) → ((k : ℕ) → get_or a k false ≡ true → get_or b k false ≡ true) → count_by (λ b. b) a ≤ count_by (λ b. b) b
bits_on-fewer [] b f = omega arith
bits_on-fewer (x ∷ a) [] f =
    let h = bits_on-fewer a [] (λ k on. f (suc k) on) in
    omega (arith, h, one-fewer x false (f 0), count-cons x a)
bits_on-fewer (x ∷ a) (y ∷ b) f =
    let h = bits_on-fewer a b (λ k on. f (suc k) on) in
    omega (arith, h, one-fewer x y (f 0), count-cons x a, count-cons y b)

-- and fewer, if the other list has the same length and differs
pub bits_on-less : (a b : List Bool) → length a ≡ length b → ((k : ℕ) → get_or a k false ≡ true → get_or b k false ≡ true) → (b ≡ a → ⊥) → count_by (λ b. b) a < count_by (λ b. b) b
bits_on-less [] [] e f ne = absurd (ne refl)
bits_on-less [] (y ∷ b) e f ne = absurd (omega (arith, e))
bits_on-less (x ∷ a) [] e f ne = absurd (omega (arith, e))
bits_on-less (true ∷ a) (false ∷ b) e f ne = absurd (true≢false (sym (f 0 refl)))
bits_on-less (false ∷ a) (true ∷ b) e f ne =
    let h = bits_on-fewer a b (λ k on. f (suc k) on) in
    omega (arith, h, count-cons false a, count-cons true b)
bits_on-less (true ∷ a) (true ∷ b) e f ne =
    let h = bits_on-less a b (omega (arith, e)) (λ k on. f (suc k) on) (λ i. ne (ap (λ l. true ∷ l) i)) in
    omega (arith, h, count-cons true a, count-cons true b)
bits_on-less (false ∷ a) (false ∷ b) e f ne =
    let h = bits_on-less a b (omega (arith, e)) (λ k on. f (suc k) on) (λ i. ne (ap (λ l. false ∷ l) i)) in
    omega (arith, h, count-cons false a, count-cons false b)
