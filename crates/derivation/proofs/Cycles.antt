-- A rule for which a rule with a growing cycle is useful: each turn of the cycle adds tokens that cost something.
use Rattle.std.proofs.Common.{◌≡◌, ℕ, zero, suc, ◌+◌, ◌<◌, ◌≤◌, List, [], ◌∷◌, ◌++◌, Contains, map, subst, ap, arith}
use Rattle.std.proofs.lemmas.List.Sums.{sum_by-append}
use Rattle.derivation.specs.Grammar.{Sym, Rule, Token}
use Rattle.derivation.specs.Derivation.{Derives, next}
use Rattle.derivation.specs.Tree.{Yields}
use Rattle.derivation.specs.Sentence.{cost_of}
use Rattle.derivation.specs.Path.{DerivesContaining}
use Rattle.derivation.specs.Costs.{Unbounded}
use Rattle.derivation.specs.Cycles.{GrowingCycle, IsUseful}
use Rattle.derivation.proofs.Concatenation.{derives_trans}
use Rattle.derivation.proofs.Paths.{around}
use Rattle.derivation.proofs.Trees.{trees_split, trees_join, trees_before, trees_from_derivation, derivation_from_trees}

module _ (P : ℕ → List Sym → Type 0) (cost : ℕ → ℕ) where
  cost_between : (a b c : List ℕ) → cost_of cost (a ++ (b ++ c)) ≡ cost_of cost a + (cost_of cost b + cost_of cost c)
  cost_between a b c = simp sum_by-append

  -- a sentence of the rule that costs n or more
  record CostsAtLeast (x n : ℕ) : Type 0 where
    word : List ℕ
    tree : Yields P (Rule x ∷ []) word
    enough : n ≤ cost_of cost word

  turn : (x n : ℕ) → GrowingCycle P cost x → CostsAtLeast x n → CostsAtLeast x (suc n)
  turn x n c t =
      let p = trees_split P c.u c.v c.word (trees_from_derivation P (c.u ++ c.v) c.word c.gives) in
      let whole = p.prefix ++ (t.word ++ p.back) in
      record {
        word = whole;
        tree = trees_before P whole (next c.first c.around) (trees_join P p.first (trees_join P t.tree p.second));
        enough = omega (
          arith,
          cost_between p.prefix t.word p.back,
          ap (cost_of cost) p.whole,
          sum_by-append cost p.prefix p.back,
        );
      }

  turns : (x n : ℕ) → GrowingCycle P cost x → CostsAtLeast x 0 → CostsAtLeast x n
  turns x zero c t = t
  turns x (suc n) c t = turn x n c (turns x n c t)

  pub cycle_unbounds : (r x : ℕ) → IsUseful P r x → GrowingCycle P cost x → Unbounded P cost r
  cycle_unbounds r x m c n =
      let all = trees_from_derivation P (m.before ++ (Rule x ∷ m.after)) m.word m.gives in
      let p = trees_split P m.before (Rule x ∷ m.after) m.word all in
      let q = trees_split P (Rule x ∷ []) m.after p.back p.second in
      let t = turns x (suc n) c (record { word = q.prefix; tree = q.first; enough = omega arith }) in (
        (p.prefix ++ (t.word ++ q.back)),
        (derives_trans P m.derives (derivation_from_trees P (trees_join P p.first (trees_join P t.tree q.second)))),
        (omega (arith, cost_between p.prefix t.word q.back)),
      )

  -- a rule derives a list that contains it, and the other symbols derive tokens that cost something
  pub growing_cycle_of : (x : ℕ) (w : List ℕ) (l : DerivesContaining P x x) → Derives P (l.before ++ l.after) (map Token w)
      → 0 < cost_of cost w → GrowingCycle P cost x
  growing_cycle_of x w l d h = record {
    middle = l.middle;
    u = l.before;
    v = l.after;
    word = w;
    first = l.first;
    around = l.derives;
    gives = d;
    grows = h;
  }

module _ (P : ℕ → List Sym → Type 0) where
  pub useful_on_the_way : (r x : ℕ) (l : List Sym) (w : List ℕ) → Derives P (Rule r ∷ []) l → Contains l (Rule x)
      → Derives P l (map Token w) → IsUseful P r x
  useful_on_the_way r x l w d h e = let k = around l (Rule x) h in record {
    before = k.before;
    after = k.after;
    word = w;
    derives = subst (λ m. Derives P (Rule r ∷ []) m) k.whole d;
    gives = subst (λ m. Derives P m (map Token w)) k.whole e;
  }
