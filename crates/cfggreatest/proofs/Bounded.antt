-- A bounded, productive rule has a greatest cost: a rule's word is replaced by one that costs more, as long as a production makes such a
-- word of the words of its rules.
use Rattle.std.proofs.Common.{◌≡◌, ℕ, zero, suc, ◌+◌, ◌-◌, ◌<◌, ◌≤◌, ◌⊎◌, inl, inr, min, List, [], ◌∷◌, ◌++◌, length, Option, Some, None, append-nil, below_more, refl, sym, ap, subst, ◌∙◌, arith}
use Rattle.std.proofs.lemmas.Bool.{cases_eq, cases_lt}
use Rattle.std.proofs.lemmas.List.{get_or_default}
use Rattle.std.proofs.lemmas.List.Elements.{Contains-get_or}
use Rattle.std.proofs.lemmas.List.Sums.{sum_by-append}
use Rattle.derivation.specs.Grammar.{Sym, Rule, Token, Grammar, Production, IsGrammar, HasProduction}
use Rattle.derivation.specs.Sentence.{cost_of, Sentence}
use Rattle.derivation.specs.Costs.{Greatest}
use Rattle.derivation.specs.Tree.{Yields, empty, token, opened}
use Rattle.derivation.proofs.Trees.{trees_from_derivation, trees_join, derivation_from_trees}
use Rattle.cfgtables.specs.Openings.{nth_production}
use Rattle.cfgtables.proofs.Located.{owner}
use Rattle.cfggreatest.specs.Inner.AtLeast.{HasWord}

-- the sum of how much each of the first n numbers is below the limit
abbrev pub missing : ℕ → (ℕ → ℕ) → ℕ → ℕ
missing limit f zero = 0
missing limit f (suc n) = missing limit f n + (limit - f n)

module _ (limit : ℕ) (f h : ℕ → ℕ) (le : (q : ℕ) → f q ≤ h q) where
  missing_le : (n : ℕ) → missing limit h n ≤ missing limit f n
  missing_le zero = omega arith
  missing_le (suc n) = let rest = missing_le n in omega (arith, rest, le n)

  pub missing_less : (r : ℕ) → f r < h r → f r < limit → (n : ℕ) → r < n → missing limit h n < missing limit f n
  missing_less r more small zero lt = absurd (omega (arith, lt))
  missing_less r more small (suc n) lt = elim (cases_eq n r) [
    | inl e ↦ let rest = missing_le n in omega (arith, rest, more, small, ap f e, ap h e)
    | inr ne ↦ let rest = missing_less r more small n (omega (arith, lt, ne)) in omega (arith, rest, le n)
  ]

-- a cost that is bounded by one of words, up to a limit
sum_most : (limit m n a b : ℕ) → min m limit < a + 1 → min n limit < b + 1 → min (m + n) limit < a + b + 1
sum_most limit m n a b h i = omega (arith, h, i)

most_along : (limit m v w : ℕ) → min m limit < v → min v (limit + 1) ≤ w → min m limit < w
most_along limit m v w h le = omega (arith, h, le)

module _ (g : Grammar) (cost : ℕ → ℕ) (limit : ℕ) where
  -- a word that the list yields, if one was found; and such a word for each rule
  abbrev Word : List Sym → Type 0
  Word a = Option (HasWord (HasProduction g) a)

  abbrev Words : Type 0
  Words = (r : ℕ) → Word (Rule r ∷ [])

  -- what a word costs, plus one
  abbrev value : {a : List Sym} → Word a → ℕ
  value None = 0
  value (Some y) = cost_of cost y.0 + 1

  abbrev join : {a b : List Sym} → Word a → Word b → Word (a ++ b)
  join None o = None
  join (Some y) None = None
  join (Some y) (Some z) = Some (y.0 ++ z.0, trees_join (HasProduction g) y.1 z.1)

  value-join : {a b : List Sym} (m n : ℕ) (o : Word a) (k : Word b) → min m limit < value o → min n limit < value k → min (m + n) limit < value (join o k)
  value-join m n None k h i = absurd (omega (arith, h))
  value-join m n (Some y) None h i = absurd (omega (arith, i))
  value-join m n (Some y) (Some z) h i = subst (λ k. min (m + n) limit < k + 1) (sym (sum_by-append cost y.0 z.0))
      (sum_most limit m n (cost_of cost y.0) (cost_of cost z.0) h i)

  abbrev symbol_word : Words → (s : Sym) → Word (s ∷ [])
  symbol_word words (Rule r) = words r
  symbol_word words (Token t) = Some (t ∷ [], token empty)

  abbrev sequence_word : Words → (a : List Sym) → Word a
  sequence_word words [] = Some ([], empty)
  sequence_word words (s ∷ a) = join (symbol_word words s) (sequence_word words a)

  -- up to the limit the production makes no word that costs more than its rule's
  abbrev IsClosedAt : Words → Production → Type 0
  IsClosedAt words p = min (value (sequence_word words p.symbols)) (limit + 1) ≤ value (words p.rule)

  record Closed : Type 0 where
    words : Words
    closed : (k : ℕ) → k < length g.productions → IsClosedAt words (nth_production g k)

  -- so no word of a list costs more than the one that is made of these words
  sequence_most : (x : Closed) {a : List Sym} {w : List ℕ} → Yields (HasProduction g) a w → min (cost_of cost w) limit < value (sequence_word x.words a)
  sequence_most x empty = omega arith
  sequence_most x (token {t = t} {a = a} {w = w} h) = subst (λ n. min n limit < value (sequence_word x.words (Token t ∷ a))) (sym (sum_by-append cost (t ∷ []) w))
      (value-join (cost_of cost (t ∷ [])) (cost_of cost w) (symbol_word x.words (Token t)) (sequence_word x.words a) (omega arith) (sequence_most x h))
  sequence_most x (opened {r = r} {symbols = symbols} {a = a} {u = u} {w = w} has h k e) =
      let closed = subst (IsClosedAt x.words) (get_or_default g.productions has.0 _ _ has.1 ∙ has.2) (x.closed has.0 has.1) in
      subst (λ n. min n limit < value (sequence_word x.words (Rule r ∷ a))) (sym (ap (cost_of cost) e ∙ sum_by-append cost u w))
      (value-join (cost_of cost u) (cost_of cost w) (x.words r) (sequence_word x.words a)
      (most_along limit (cost_of cost u) (value (sequence_word x.words symbols)) (value (x.words r)) (sequence_most x h) closed) (sequence_most x k))

  -- a rule's word is replaced by the word that a production of the rule makes
  module _ (words : Words) (p : Production) (has : HasProduction g p.rule p.symbols) where
    abbrev make : (q : ℕ) → q ≡ p.rule → Word p.symbols → Word (Rule q ∷ [])
    make q e None = None
    make q e (Some y) = Some (y.0, opened (subst (λ r. HasProduction g r p.symbols) (sym e) has) y.1 empty (sym (append-nil y.0)))

    value-make : (q : ℕ) (e : q ≡ p.rule) (o : Word p.symbols) → value (make q e o) ≡ value o
    value-make q e None = refl
    value-make q e (Some y) = refl

    abbrev put_at : (q : ℕ) → (q ≡ p.rule) ⊎ (q ≡ p.rule → ⊥) → Word (Rule q ∷ [])
    put_at q (inl e) = make q e (sequence_word words p.symbols)
    put_at q (inr ne) = words q

    abbrev put : Words
    put q = put_at q (cases_eq q p.rule)

    module _ (more : value (words p.rule) < min (value (sequence_word words p.symbols)) (limit + 1)) where
      no_less : (q : ℕ) (is : (q ≡ p.rule) ⊎ (q ≡ p.rule → ⊥)) → value (words q) ≤ value (put_at q is)
      no_less q (inl e) = omega (arith, more, value-make q e (sequence_word words p.symbols), ap (λ n. value (words n)) e)
      no_less q (inr ne) = omega arith

      more_there : (is : (p.rule ≡ p.rule) ⊎ (p.rule ≡ p.rule → ⊥)) → value (words p.rule) < value (put_at p.rule is)
      more_there (inl e) = omega (arith, more, value-make p.rule e (sequence_word words p.symbols))
      more_there (inr ne) = absurd (ne refl)

      misses_less : p.rule < g.rules → missing (limit + 1) (λ q. value (put q)) g.rules < missing (limit + 1) (λ q. value (words q)) g.rules
      misses_less lt = missing_less (limit + 1) (λ q. value (words q)) (λ q. value (put q)) (λ q. no_less q (cases_eq q p.rule)) p.rule
          (more_there (cases_eq p.rule p.rule)) (omega (arith, more)) g.rules lt

  abbrev Better : Words → Type 0
  Better words = (p : Production) × HasProduction g p.rule p.symbols × (value (words p.rule) < min (value (sequence_word words p.symbols)) (limit + 1))

  search_below : (words : Words) (n : ℕ) → n ≤ length g.productions → Better words ⊎ ((k : ℕ) → k < n → IsClosedAt words (nth_production g k))
  search_below words zero le = inr (λ k h. absurd (omega (arith, h)))
  search_below words (suc n) le = elim (search_below words n (omega (arith, le))) [
    | inl found ↦ inl found
    | inr all ↦ let p = nth_production g n in elim (cases_lt (value (words p.rule)) (min (value (sequence_word words p.symbols)) (limit + 1))) [
      | inl more ↦ inl (p, Contains-get_or g.productions n (record { rule = 0; symbols = [] }) (omega (arith, le)), more)
      | inr here ↦ inr (λ k h. below_more (λ k. IsClosedAt words (nth_production g k)) n all here k (omega (arith, h)))
    ]
  ]

  close : IsGrammar g → (room : ℕ) (words : Words) → missing (limit + 1) (λ q. value (words q)) g.rules < room → Closed
  close is zero words h = absurd (omega (arith, h))
  close is (suc room) words h = elim (search_below words (length g.productions) (omega arith)) [
    | inl f ↦ close is room (put words f.0 f.1) (omega (arith, h, misses_less words f.0 f.1 f.2 (owner g f.0 is f.1)))
    | inr all ↦ record { words = words; closed = all }
  ]

module _ (g : Grammar) (cost : ℕ → ℕ) (r n : ℕ) (bound : (v : List ℕ) → Sentence (HasProduction g) r v → cost_of cost v ≤ n) where
  greatest_word : (o : Word g cost (n + 1) (Rule r ∷ [])) → ((v : List ℕ) → Sentence (HasProduction g) r v → min (cost_of cost v) (n + 1) < value g cost (n + 1) o)
      → (w : List ℕ) → Sentence (HasProduction g) r w → (c : ℕ) × Greatest (HasProduction g) cost r c
  greatest_word None most w s = absurd (omega (arith, most w s))
  greatest_word (Some y) most w s = let d = derivation_from_trees (HasProduction g) y.1 in
      (cost_of cost y.0, ((y.0, d, refl), λ v k. omega (arith, bound v k, bound y.0 d, most v k)))

  pub greatest_exists : IsGrammar g → (w : List ℕ) → Sentence (HasProduction g) r w → (c : ℕ) × Greatest (HasProduction g) cost r c
  greatest_exists is =
      let x = close g cost (n + 1) is (suc (missing (n + 1 + 1) (λ q. 0) g.rules)) (λ q. None) (omega arith) in
      greatest_word (sequence_word g cost (n + 1) x.words (Rule r ∷ [])) (λ v s. sequence_most g cost (n + 1) x (trees_from_derivation (HasProduction g) (Rule r ∷ []) v s))
