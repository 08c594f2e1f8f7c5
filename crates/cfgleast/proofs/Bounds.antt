-- Tables that bound the costs of sentences from below, and tables whose costs are those of sentences.
use Rattle.std.proofs.Common.{◌≡◌, ℕ, ◌+◌, ◌≤◌, min, List, Option, Some, arith, refl, sym}
use Rattle.std.proofs.lemmas.Option.{same_Some}
use Rattle.derivation.specs.Grammar.{Sym}
use Rattle.derivation.specs.Sentence.{cost_of}
use Rattle.derivation.specs.Tree.{Yields}
use Rattle.derivation.specs.Sums.{sum_of, symbol_cost}
use Rattle.derivation.proofs.Sums.{plus_both}
use Rattle.derivation.proofs.Made.{GoesOver}
use Rattle.cfgleast.proofs.TreeSums.{GoesUp, sums_by_trees}

-- a cost that exists and is at most n
pub record IsAtMost (cost : Option ℕ) (n : ℕ) : Type 0 where
  pub value : ℕ
  pub is : cost ≡ Some value
  pub within : value ≤ n

-- a cost that exists, and is at most n when it is cut down to the limit
pub record IsAtMostCut (limit : ℕ) (cost : Option ℕ) (n : ℕ) : Type 0 where
  pub value : ℕ
  pub is : cost ≡ Some value
  pub within : min value limit ≤ n

module _ (P : ℕ → List Sym → Type 0) (cost : ℕ → ℕ) (least : ℕ → Option ℕ) (limit : ℕ) where
  costs : Sym → Option ℕ
  costs = symbol_cost cost least

  -- each rule costs at most what any of its productions costs, if that is at most the limit
  pub record Covers : Type 0 where
    pub covers : (r n : ℕ) (symbols : List Sym) → P r symbols → sum_of (symbol_cost cost least) symbols ≡ Some n → n ≤ limit → IsAtMost (least r) n

  up_to_limit : Option ℕ → ℕ → Type 0
  up_to_limit c n = n ≤ limit → IsAtMost c n

  goes_up : Covers → GoesUp P cost (symbol_cost cost least) (λ c n. n ≤ limit → IsAtMost c n)
  goes_up h = record {
    none = λ _. record { value = 0; is = refl; within = omega arith };
    both = λ a b m n f g e. let k = f (omega (arith, e)) in let l = g (omega (arith, e)) in
        record { value = k.value + l.value; is = plus_both a b k.value l.value k.is l.is; within = omega (arith, k.within, l.within) };
    token = λ t _. record { value = cost t; is = refl; within = omega arith };
    production = λ r symbols n has f e. let k = f e in
        let c = h.covers r k.value symbols has k.is (omega (arith, k.within, e)) in
        record { value = c.value; is = c.is; within = omega (arith, c.within, k.within) };
  }

  -- no list of symbols yields words that cost less than the list, and at most the limit
  pub lower_bound : Covers → {a : List Sym} {w : List ℕ} → Yields P a w → cost_of cost w ≤ limit → IsAtMost (sum_of (symbol_cost cost least) a) (cost_of cost w)
  lower_bound h t = sums_by_trees P cost (symbol_cost cost least) (λ c n. n ≤ limit → IsAtMost c n) (goes_up h) t

  -- each rule costs at most what any of its productions costs, cut down to the limit
  pub record CoversCut : Type 0 where
    pub covers : (r n : ℕ) (symbols : List Sym) → P r symbols → sum_of (symbol_cost cost least) symbols ≡ Some n → IsAtMost (least r) (min n limit)

  goes_up_cut : CoversCut → GoesUp P cost (symbol_cost cost least) (IsAtMostCut limit)
  goes_up_cut h = record {
    none = record { value = 0; is = refl; within = omega arith };
    both = λ a b m n k l. record {
      value = k.value + l.value;
      is = plus_both a b k.value l.value k.is l.is;
      within = omega (arith, k.within, l.within);
    };
    token = λ t. record { value = cost t; is = refl; within = omega arith };
    production = λ r symbols n has k.
        let c = h.covers r k.value symbols has k.is in
        record { value = c.value; is = c.is; within = omega (arith, c.within, k.within) };
  }

  -- no list of symbols yields words that cost less than the list, cut down to the limit
  pub lower_bound_cut : CoversCut → {a : List Sym} {w : List ℕ} → Yields P a w → IsAtMostCut limit (sum_of (symbol_cost cost least) a) (cost_of cost w)
  lower_bound_cut h t = sums_by_trees P cost (symbol_cost cost least) (IsAtMostCut limit) (goes_up_cut h) t

-- costs in the table that are exactly those of words
pub exactly_over : (cost : ℕ → ℕ) (least : ℕ → Option ℕ) → GoesOver cost (symbol_cost cost least) (λ c n. c ≡ n)
exactly_over cost least = record {
  none = refl;
  both = λ a b m n e f. omega (arith, e, f);
  token = λ t c e. let is : cost t ≡ c = same_Some _ _ e in sym is;
}
