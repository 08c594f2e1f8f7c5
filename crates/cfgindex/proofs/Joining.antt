-- Words that are joined one by one.
use Rattle.std.proofs.Common.{◌≡◌, ◌≢◌, ℕ, ◌+◌, ◌<◌, ◌≤◌, ◌==◌, ◌||◌, Bool, true, false, not, List, length, get_or, slice_set, MatchBool, bit_or, arith, refl, sym, ap, ◌∙◌, below_more, get_or-set_same, get_or-set_other, length-set}
use Rattle.std.proofs.lemmas.Bool.{eqb-true, eqb-false}
use Rattle.std.proofs.lemmas.List.{set-get_or}
use Rattle.cfgindex.specs.BitWords.{AreJoined}

-- some word below i differs from the word of a
abbrev pub Differs : List ℕ → List ℕ → ℕ → Type 0
Differs a now i = (k : ℕ) × (k < i) × (get_or now k 0 ≢ get_or a k 0)

-- a is joined with b below i
pub record Joining (i : ℕ) (a b now : List ℕ) (changed : Bool) : Type 0 where
  pub same_length : length now ≡ length a
  pub below : (k : ℕ) → k < i → get_or now k 0 ≡ bit_or (get_or a k 0) (get_or b k 0)
  pub above : (k : ℕ) → i ≤ k → get_or now k 0 ≡ get_or a k 0
  pub grew : MatchBool changed (Differs a now i) (now ≡ a)

pub joining_none : (a b : List ℕ) → Joining 0 a b a false
joining_none a b = record { same_length = refl; below = λ k h. absurd (omega (arith, h)); above = λ k h. refl; grew = refl }

pub joining_more : (i x y : ℕ) (a b now : List ℕ) (changed r : Bool) → i < length a → length a ≡ length b → x ≡ get_or now i 0 → y ≡ get_or b i 0
    → MatchBool r (bit_or x y ≢ x) (bit_or x y ≡ x) → Joining i a b now changed → Joining (i + 1) a b (slice_set now i (bit_or x y)) (changed || r)
joining_more i x y a b now changed r lt same ex ey differs w = record {
  same_length = length-set now i _ ∙ w.same_length;
  below = below_more _ _
      (λ k h. let ne : k ≢ i = omega arith in get_or-set_other now i k _ 0 ne ∙ w.below k h)
      (get_or-set_same now i _ 0 within ∙ ap (λ n. bit_or n y) (ex ∙ w.above i (omega arith)) ∙ ap (λ n. bit_or (get_or a i 0) n) ey);
  above = λ k h. let ne : k ≢ i = omega arith in get_or-set_other now i k _ 0 ne ∙ w.above k (omega arith);
  grew = go changed r w.grew differs;
}
  where
    within : i < length now
    within = let e = w.same_length in omega arith

    go : (c r : Bool) → MatchBool c (Differs a now i) (now ≡ a) → MatchBool r (bit_or x y ≢ x) (bit_or x y ≡ x)
        → MatchBool (c || r) (Differs a (slice_set now i (bit_or x y)) (i + 1)) (slice_set now i (bit_or x y) ≡ a)
    go true r g h = let ne : g.0 ≢ i = omega (arith, g.1) in
        (g.0, omega (arith, g.1), λ e. g.2 (sym (get_or-set_other now i g.0 (bit_or x y) 0 ne) ∙ e))
    go false true g h = (i, omega arith, λ e. h (sym (get_or-set_same now i (bit_or x y) 0 within) ∙ e ∙ sym (w.above i (omega arith)) ∙ sym ex))
    go false false g h = ap (slice_set now i) h ∙ ap (slice_set now i) ex ∙ set-get_or now i 0 ∙ g

pub joining_all : (i : ℕ) (a b now : List ℕ) (changed : Bool) → length a ≤ i → Joining i a b now changed → AreJoined a b now
joining_all i a b now changed le w = record { long = w.same_length; each = λ k h. w.below k (omega (arith, h, le)) }

pub joining_grew : (i : ℕ) (a b now : List ℕ) (changed : Bool) → Joining i a b now changed → MatchBool changed (now ≢ a) (now ≡ a)
joining_grew i a b now true w = λ e. w.grew.2 (ap (λ l. get_or l w.grew.0 0) e)
joining_grew i a b now false w = w.grew

-- the test says whether two numbers differ
pub differ : (x y : ℕ) → MatchBool (not (x == y)) (x ≢ y) (x ≡ y)
differ x y = go (x == y) (λ e. eqb-true x y e) (λ e. eqb-false x y e)
  where
    go : (b : Bool) → (b ≡ true → x ≡ y) → (b ≡ false → x ≡ y → ⊥) → MatchBool (not b) (x ≢ y) (x ≡ y)
    go true same other = same refl
    go false same other = other refl
