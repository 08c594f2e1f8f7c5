-- Lists that are processed from their ends.
use Rattle.std.proofs.Common.{◌≡◌, ℕ, zero, suc, ◌+◌, ◌<◌, ◌≤◌, List, [], ◌∷◌, ◌++◌, length, replicate, append_assoc, add-one, refl, sym, ap, ◌∙◌, arith}
use Rattle.std.proofs.lemmas.List.{length-append}

module _ {A : Type 0} (all items rest done : List A) (x : A) where
  pub popped : all ≡ items ++ done → items ≡ rest ++ x ∷ [] → all ≡ rest ++ (x ∷ done)
  popped e f = e ∙ ap (λ l. l ++ done) f ∙ append_assoc rest (x ∷ []) done

  pub fewer : items ≡ rest ++ x ∷ [] → length rest < length items
  fewer f = let long = ap length f ∙ length-append rest (x ∷ []) in omega (arith, long)

pub none_left : {A : Type 0} (w : List A) → length w ≤ 0 → w ≡ []
none_left [] h = refl
none_left (t ∷ w) h = absurd (omega (arith, h))

pub shorter : {A : Type 0} (rest all : List A) (x : A) → all ≡ x ∷ rest → length rest < length all
shorter rest all x e = let long = ap length e in omega (arith, long)

-- one more element
pub replicate_more : {A : Type 0} (x : A) (n : ℕ) → replicate n x ++ x ∷ [] ≡ replicate (n + 1) x
replicate_more {A} x n = go n ∙ ap (λ k. replicate k x) (sym (add-one n))
  where
    go : (k : ℕ) → replicate k x ++ x ∷ [] ≡ replicate (suc k) x
    go zero = refl
    go (suc k) = ap (λ l. x ∷ l) (go k)
