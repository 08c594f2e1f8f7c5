-- Symbols that derive the empty list, one by one.
use Rattle.std.proofs.Common.{◌≡◌, ℕ, zero, suc, ◌+◌, ◌-◌, ◌<◌, ◌≤◌, ◌↔◌, List, [], ◌∷◌, ◌++◌, IsTrue, get_or, length, map, take, drop, arith, refl, sym, subst, ◌∙◌, true≢false}
use Rattle.derivation.specs.Grammar.{Sym, Rule, Token, Grammar, HasProduction}
use Rattle.std.proofs.lemmas.List.{get_or-drop, get_or-take, length-drop, length-take-le}
use Rattle.derivation.specs.Derivation.{Derives}
use Rattle.derivation.specs.First.{Nullable}
use Rattle.derivation.specs.FirstSets.{AreNullable}
use Rattle.derivation.proofs.Concatenation.{derives_production, derives_trans}
use Rattle.derivation.proofs.Firsts.{nullable_derives, nullable_map}
use Rattle.derivation.proofs.Trees.{derivation_from_trees, trees_from_derivation}
use Rattle.derivation.specs.Tree.{Yields, empty, token, opened}
use Rattle.cfganalysis.specs.Firsts.{AreFirsts, FirstSets, IsNullableRule}
use Rattle.cfgcycles.specs.Inner.Putting.{AreNullableBetween, is_empty}

module _ (P : ℕ → List Sym → Type 0) where
  no_tokens : (u w : List ℕ) → [] ≡ u ++ w → (u ≡ []) × (w ≡ [])
  no_tokens [] w e = (refl, sym e)
  no_tokens (t ∷ u) w e = absurd (cc)

  trees_nullable : (a : List Sym) (w : List ℕ) → w ≡ [] → Yields P a w → AreNullable (Nullable P) a
  trees_nullable a w none empty = tt
  trees_nullable a w none (token h) = absurd (cc)
  trees_nullable a w none (opened {symbols = symbols} {u = u} {w = rest} has h k e) =
      let parts = no_tokens u rest (sym none ∙ e) in (
        derives_trans P (derives_production P _ symbols has) (subst (λ l. Derives P symbols (map Token l)) parts.0 (derivation_from_trees P h)),
        trees_nullable _ rest parts.1 k,
      )

  pub derives_nullable : (a : List Sym) → Derives P a [] → AreNullable (Nullable P) a
  derives_nullable a d = trees_nullable a [] refl (trees_from_derivation P a [] d)

module _ (g : Grammar) (x : FirstSets) (are : AreFirsts g x) where
  at_each : (a : List Sym) → AreNullable (IsNullableRule x) a → (k : ℕ) → k < length a → IsTrue (is_empty x (get_or a k (Token 0)))
  at_each [] h k lt = absurd (omega (arith, lt))
  at_each (Token t ∷ a) h k lt = absurd h
  at_each (Rule r ∷ a) h zero lt = h.0
  at_each (Rule r ∷ a) h (suc k) lt = at_each a h.1 k (omega (arith, lt))

  from_each : (a : List Sym) → ((k : ℕ) → k < length a → IsTrue (is_empty x (get_or a k (Token 0)))) → AreNullable (IsNullableRule x) a
  from_each [] h = tt
  from_each (Token t ∷ a) h = absurd (true≢false (sym (h 0 (omega arith))))
  from_each (Rule r ∷ a) h = (h 0 (omega arith), from_each a (λ k lt. h (suc k) (omega (arith, lt))))

  -- a list derives the empty one exactly if each of its symbols is nullable
  pub derives_nothing : (a : List Sym) → Derives (HasProduction g) a [] ↔ AreNullableBetween x a 0 (length a)
  derives_nothing a = (
    (λ d k le lt. at_each a (nullable_map _ _ (λ r h. (are.empty r).1 h) a (derives_nullable (HasProduction g) a d)) k lt),
    (λ h. nullable_derives (HasProduction g) a (nullable_map _ _ (λ r h. (are.empty r).0 h) a (from_each a (λ k lt. h k (omega arith) lt)))),
  )

  -- the same for what is before an index
  pub prefix_empty : (a : List Sym) (i : ℕ) → i ≤ length a → Derives (HasProduction g) (take i a) [] ↔ AreNullableBetween x a 0 i
  prefix_empty a i le = (
    (λ d k from lt. subst (λ s. IsTrue (is_empty x s)) (get_or-take i a k (Token 0) lt)
        ((derives_nothing (take i a)).0 d k from (subst (λ n. k < n) (sym (length-take-le i a le)) lt))),
    (λ h. (derives_nothing (take i a)).1 (λ k from lt. let within = subst (λ n. k < n) (length-take-le i a le) lt in
        subst (λ s. IsTrue (is_empty x s)) (sym (get_or-take i a k (Token 0) within)) (h k from within))),
  )

  -- and for what is from an index on
  pub back_empty : (a : List Sym) (i : ℕ) → Derives (HasProduction g) (drop i a) [] ↔ AreNullableBetween x a i (length a)
  back_empty a i = (
    (λ d k from lt. let long = length-drop i a in
        let at = (derives_nothing (drop i a)).0 d (k - i) (omega arith) (omega (arith, long, from, lt)) in
        let same : i + (k - i) ≡ k = omega (arith, from) in
        subst (λ n. IsTrue (is_empty x (get_or a n (Token 0)))) same (subst (λ s. IsTrue (is_empty x s)) (get_or-drop i a (k - i) (Token 0)) at)),
    (λ h. (derives_nothing (drop i a)).1 (λ k from lt. let long = length-drop i a in
        subst (λ s. IsTrue (is_empty x s)) (sym (get_or-drop i a k (Token 0))) (h (i + k) (omega arith) (omega (arith, long, lt))))),
  )
