-- Lists of symbols that yield words of some cost or more, and rules with unbounded costs.
use Rattle.std.proofs.Common.{◌≡◌, ℕ, zero, suc, ◌+◌, ◌≤◌, ◌⊎◌, inl, inr, Bool, true, false, cond, eqb, eqb-true, eq-eqb, List, [], ◌∷◌, ◌++◌, All, Contains, append-nil, sum_by, refl, sym, ap, arith, subst}
use Rattle.std.proofs.lemmas.List.Elements.{All-head, All-tail}
use Rattle.std.proofs.lemmas.List.Sums.{get_or-le-sum_by, sum_by-append, sum_by-cons}
use Rattle.derivation.specs.Grammar.{Sym, Rule, Token}
use Rattle.derivation.specs.Sentence.{cost_of}
use Rattle.derivation.specs.Costs.{Greatest, Unbounded}
use Rattle.derivation.specs.Tree.{Yields, empty, token, opened}
use Rattle.derivation.proofs.Trees.{trees_split, trees_join, trees_before, trees_from_derivation, derivation_from_trees}
use Rattle.cfggreatest.specs.Growth.{GrowsFrom, GrowsFromSet}
use Rattle.cfggreatest.specs.Inner.AtLeast.{AtLeast, HasWord, IsUnproductive, IsSequenceAbove, weigh}

module _ (P : ℕ → List Sym → Type 0) (cost : ℕ → ℕ) where
  pub at_least_fewer : (a : List Sym) (n k : ℕ) → k ≤ n → AtLeast P cost a n → AtLeast P cost a k
  at_least_fewer a n k le h = record { word = h.word; tree = h.tree; enough = let e = h.enough in omega (arith, le, e) }

  pub at_least_none : (a : List Sym) → HasWord P a → AtLeast P cost a 0
  at_least_none a h = record { word = h.0; tree = h.1; enough = omega arith }

  -- a rule yields what one of its productions does
  pub at_least_rule : (r : ℕ) (symbols : List Sym) (n : ℕ) → P r symbols → AtLeast P cost symbols n → AtLeast P cost (Rule r ∷ []) n
  at_least_rule r symbols n has h = record { word = h.word; tree = opened has h.tree empty (sym (append-nil h.word)); enough = h.enough }

  -- a list costs as much as its symbols in total
  pub sequence_at_least : (costs : ℕ → ℕ) (a : List Sym) → ((r : ℕ) → Contains a (Rule r) → AtLeast P cost (Rule r ∷ []) (costs r)) → AtLeast P cost a (sum_by (weigh cost costs) a)
  sequence_at_least costs [] all = record { word = []; tree = empty; enough = omega arith }
  sequence_at_least costs (Token t ∷ a) all =
      let rest = sequence_at_least costs a (λ r h. all r (suc h.0, omega (arith, h.1), h.2)) in record {
        word = t ∷ rest.word;
        tree = token rest.tree;
        enough = let e = rest.enough in omega (arith, e, sum_by-cons cost t rest.word, sum_by-cons (weigh cost costs) (Token t) a);
      }
  sequence_at_least costs (Rule r ∷ a) all =
      let first = all r (0, omega arith, refl) in
      let rest = sequence_at_least costs a (λ r h. all r (suc h.0, omega (arith, h.1), h.2)) in record {
        word = first.word ++ rest.word;
        tree = trees_join P first.tree rest.tree;
        enough = let d = first.enough in let e = rest.enough in
            omega (arith, d, e, sum_by-append cost first.word rest.word, sum_by-cons (weigh cost costs) (Rule r) a);
      }

  pub unbounded_from : (r : ℕ) → ((n : ℕ) → AtLeast P cost (Rule r ∷ []) n) → Unbounded P cost r
  unbounded_from r all n = let h = all (n + 1) in (h.word, derivation_from_trees P h.tree, let e = h.enough in omega (arith, e))

  pub unbounded_at_least : (r n : ℕ) → Unbounded P cost r → AtLeast P cost (Rule r ∷ []) n
  unbounded_at_least r n more = let h = more n in
      record { word = h.0; tree = trees_from_derivation P (Rule r ∷ []) h.0 h.1; enough = let e = h.2 in omega (arith, e) }

  pub greatest_at_least : (r n : ℕ) → Greatest P cost r n → AtLeast P cost (Rule r ∷ []) n
  greatest_at_least r n top = let h = top.0 in
      record { word = h.0; tree = trees_from_derivation P (Rule r ∷ []) h.0 h.1; enough = let e = h.2 in omega (arith, e) }

  grow : (r x n : ℕ) → GrowsFrom P cost r x → AtLeast P cost (Rule x ∷ []) n → AtLeast P cost (Rule r ∷ []) (n + 1)
  grow r x n g t =
      let p = trees_split P g.before g.after g.word (trees_from_derivation P (g.before ++ g.after) g.word g.gives) in
      let whole = p.prefix ++ (t.word ++ p.back) in
      record {
        word = whole;
        tree = trees_before P whole g.leads (trees_join P p.first (trees_join P t.tree p.second));
        enough = let e = t.enough in let f = g.grows in
            omega (arith, e, f, sum_by-append cost p.prefix (t.word ++ p.back), sum_by-append cost t.word p.back, ap (cost_of cost) p.whole, sum_by-append cost p.prefix p.back);
      }

  -- rules that each grow from a rule of the set have unbounded costs
  pub unbounded_set : (set : ℕ → Bool) → ((r : ℕ) → set r ≡ true → GrowsFromSet P cost set r) → (r : ℕ) → set r ≡ true → Unbounded P cost r
  unbounded_set set grows r u = unbounded_from r (λ n. past n r u)
    where
      past : (n r : ℕ) → set r ≡ true → AtLeast P cost (Rule r ∷ []) n
      past zero r u = let g = grows r u in record { word = g.sentence; tree = trees_from_derivation P (Rule r ∷ []) g.sentence g.derived; enough = omega arith }
      past (suc n) r u = let g = grows r u in at_least_fewer (Rule r ∷ []) (n + 1) (suc n) (omega arith) (grow r g.rule n g.from (past n g.rule g.among))

  -- what is true of each word of a rule whose productions are within bounds the words of lists
  module _ (costs : ℕ → ℕ) (Within : Sym → Type 0)
      (bound : (r : ℕ) (w : List ℕ) → Within (Rule r) → Yields P (Rule r ∷ []) w → ((symbols : List Sym) → P r symbols → IsUnproductive P symbols ⊎ (All Within symbols × (sum_by (weigh cost costs) symbols ≤ costs r))) ⊎ (cost_of cost w ≤ costs r)) where
    pub sequence_most : {a : List Sym} {w : List ℕ} → Yields P a w → All Within a → cost_of cost w ≤ sum_by (weigh cost costs) a
    sequence_most empty all = omega arith
    sequence_most (token {t = t} {a = a} {w = w} h) all =
        let rest = sequence_most h (All-tail Within (Token t) a all) in
        omega (arith, rest, sum_by-cons cost t w, sum_by-cons (weigh cost costs) (Token t) a)
    sequence_most (opened {r = r} {symbols = symbols} {a = a} {u = u} {w = w} has h k e) all =
        let rest = sequence_most k (All-tail Within (Rule r) a all) in
        let first : cost_of cost u ≤ costs r = elim (bound r u (All-head Within (Rule r) a all) (opened has h empty (sym (append-nil u)))) [
          | inl by ↦ elim (by symbols has) [
            | inl unproductive ↦ absurd (unproductive u h)
            | inr h' ↦ let below = sequence_most h h'.0 in let le = h'.1 in omega (arith, below, le)
          ]
          | inr le ↦ le
        ] in
        omega (arith, first, rest, ap (cost_of cost) e, sum_by-append cost u w, sum_by-cons (weigh cost costs) (Rule r) a)

-- a list costs as much as each rule in it, if the others yield words
module _ (P : ℕ → List Sym → Type 0) (a : List Sym) (x : ℕ) (among : Contains a (Rule x)) (words : (r : ℕ) → Contains a (Rule r) → HasWord P (Rule r ∷ [])) where
  pub sequence_above : IsSequenceAbove P a x
  sequence_above cost n h = at_least_fewer P cost a _ n
      (let le = get_or-le-sum_by (weigh cost costs) a among.0 (Rule x) among.1 in
      let is : costs x ≡ n = ap (λ b. cond b n 0) (eq-eqb x x refl) in
      omega (arith, le, ap (weigh cost costs) among.2, is))
      (sequence_at_least P cost costs a (λ r has. alone r (eqb r x) refl (words r has)))
    where
      costs : ℕ → ℕ
      costs r = cond (eqb r x) n 0

      alone : (r : ℕ) (b : Bool) → eqb r x ≡ b → HasWord P (Rule r ∷ []) → AtLeast P cost (Rule r ∷ []) (cond b n 0)
      alone r true e w = subst (λ q. AtLeast P cost (Rule q ∷ []) n) (sym (eqb-true r x e)) h
      alone r false e w = at_least_none P cost (Rule r ∷ []) w
