-- No minimal sentence is a proper prefix of another, so the first sentences of a list's symbols make the first sentence of the list.
use Rattle.std.proofs.Common.{◌≡◌, ℕ, ◌<◌, List, [], ◌∷◌, ◌++◌, All, arith, refl, sym, ap, subst, ◌∙◌}
use Rattle.std.specs.declared.cmp.Ordering.{Ordering}
use Rattle.std.specs.declared.cmp.Ordering.TheVariants.{Less, Equal, Greater}
use Rattle.std.specs.Ordering.{nat_cmp, ordering_then}
use Rattle.std.specs.Cmp.{nat_cmp_is}
use Rattle.std.proofs.lemmas.Cmp.{ranked, by_ranked}
use Rattle.std.proofs.lemmas.List.Sums.{sum_by-append}
use Rattle.derivation.specs.Grammar.{Sym}
use Rattle.derivation.specs.Costs.{Minimal}
use Rattle.cfgchoices.specs.Splits.{Split, done, itself, part}
use Rattle.cfgchoices.specs.FirstSentence.{FirstMinimal, lexicographic}
use Rattle.cfgchoices.proofs.Lengths.{IsPaid, positive_back, positive_empty, sentence_positive}
use Rattle.std.proofs.lemmas.Map.Lookups.{exact_bytes}

-- what is less by a difference is still less with anything appended
less_prefix : (u u' w w' : List ℕ) → lexicographic u u' ≡ Less → ((z : List ℕ) → u' ≡ u ++ z → z ≡ []) → lexicographic (u ++ w) (u' ++ w') ≡ Less
less_prefix [] [] w w' e h = absurd (let no : ◌≡◌ {A = Ordering} Equal Less = e in cc)
less_prefix [] (y ∷ u') w w' e h = absurd (let no : y ∷ u' ≡ [] = h (y ∷ u') refl in cc)
less_prefix (x ∷ u) [] w w' e h = absurd (let no : ◌≡◌ {A = Ordering} Greater Less = e in cc)
less_prefix (x ∷ u) (y ∷ u') w w' e h = by_ranked (x < y) (x ≡ y) (y < x) (nat_cmp x y) (ranked x y (nat_cmp x y) refl)
    (λ o lt. ap (λ r. ordering_then r (lexicographic (u ++ w) (u' ++ w'))) o)
    (λ o same. ap (λ r. ordering_then r (lexicographic (u ++ w) (u' ++ w'))) o
    ∙ less_prefix u u' w w' (sym (ap (λ r. ordering_then r (lexicographic u u')) o) ∙ e)
    (λ z k. h z (ap (λ n. n ∷ u') (sym same) ∙ ap (λ l. x ∷ l) k)))
    (λ o gt. absurd (let no : ◌≡◌ {A = Ordering} Greater Less = sym (ap (λ r. ordering_then r (lexicographic u u')) o) ∙ e in cc))

same_prefix : (u w w' : List ℕ) → lexicographic (u ++ w) (u ++ w') ≡ lexicographic w w'
same_prefix [] w w' = refl
same_prefix (x ∷ u) w w' =
    let same : nat_cmp x x ≡ Equal = sym (nat_cmp_is x x Equal refl) in
    let one : lexicographic (x ∷ u ++ w) (x ∷ u ++ w') ≡ lexicographic (u ++ w) (u ++ w') = ap (λ r. ordering_then r (lexicographic (u ++ w) (u ++ w'))) same in
    one ∙ same_prefix u w w'

pub by_order : {G : Type 0} (o : Ordering) → (o ≡ Less → G) → (o ≡ Equal → G) → (o ≡ Greater → G) → G
by_order Less l e g = l refl
by_order Equal l e g = e refl
by_order Greater l e g = g refl

module _ (P : ℕ → List Sym → Type 0) (cost : ℕ → ℕ) (paid : (r : ℕ) (symbols : List Sym) → P r symbols → All (IsPaid cost) symbols) where
  pub begins_none : (r : ℕ) (u z : List ℕ) → Minimal P cost r u → Minimal P cost r (u ++ z) → z ≡ []
  begins_none r u z m k =
      let low = k.1 u m.0 in
      let both = sum_by-append cost u z in
      positive_empty cost z (positive_back cost u z (sentence_positive P cost paid r (u ++ z) k.0)) (omega (arith, low, both))

  -- a list doesn't come after another if none of its parts comes after the other's part or is a proper prefix of it
  pub sequence_before : (G H : ℕ → List ℕ → Type 0)
      → ((r : ℕ) (u u' : List ℕ) → G r u → H r u' → (lexicographic u u' ≡ Greater → ⊥) × ((z : List ℕ) → u' ≡ u ++ z → z ≡ []))
      → {a : List Sym} {w v : List ℕ} → Split G a w → Split H a v → lexicographic w v ≡ Greater → ⊥
  sequence_before G H each done done g = let no : ◌≡◌ {A = Ordering} Equal Greater = g in cc
  sequence_before G H each (itself {t = t} {w = w} s) (itself {w = v} k) g = sequence_before G H each s k (sym (same_prefix (t ∷ []) w v) ∙ g)
  sequence_before G H each (part {r = r} {u = u} {w = w} f s e) (part {u = u'} {w = w'} m k e') g =
      let apart = ap (λ l. lexicographic l (u' ++ w')) (sym e) ∙ ap (lexicographic _) (sym e') ∙ g in
      let one = each r u u' f m in
      by_order (lexicographic u u')
      (λ less. let no : ◌≡◌ {A = Ordering} Less Greater = sym (less_prefix u u' w w' less one.1) ∙ apart in cc)
      (λ equal. sequence_before G H each s k (sym (same_prefix u w w') ∙ ap (λ l. lexicographic (u ++ w) (l ++ w')) (exact_bytes u u' equal) ∙ apart))
      one.0

  pub first_of_sequence : {a : List Sym} {w v : List ℕ} → Split (FirstMinimal P cost) a w → Split (Minimal P cost) a v → lexicographic w v ≡ Greater → ⊥
  first_of_sequence = sequence_before (FirstMinimal P cost) (Minimal P cost) (λ r u u' f m. (f.1 u' m, λ z is. begins_none r u z f.0 (subst (Minimal P cost r) is m)))
