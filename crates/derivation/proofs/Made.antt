-- Words whose costs are related to the costs of a table: what a list of symbols costs is the cost of a word they yield, if this is so of
-- each rule among them.
use Rattle.std.proofs.Common.{◌≡◌, ℕ, ◌+◌, min, List, [], ◌∷◌, ◌++◌, Option, Some, All, arith, refl, sym, ap, subst, ◌∙◌}
use Rattle.std.proofs.lemmas.Option.{same_Some}
use Rattle.std.proofs.lemmas.List.Sums.{sum_by-append}
use Rattle.std.proofs.lemmas.List.Elements.{All-head, All-tail}
use Rattle.derivation.specs.Grammar.{Sym, Rule, Token}
use Rattle.derivation.specs.Sentence.{cost_of}
use Rattle.derivation.specs.Tree.{Yields, empty, token}
use Rattle.derivation.proofs.Trees.{trees_join}
use Rattle.derivation.specs.Sums.{sum_of, symbol_cost}
use Rattle.derivation.proofs.Sums.{plus_parts}

pub cost_of-token : (cost : ℕ → ℕ) (t : ℕ) (w : List ℕ) → cost_of cost (t ∷ w) ≡ cost t + cost_of cost w
cost_of-token cost t w = sum_by-append cost (t ∷ []) w ∙ ap (λ n. n + cost_of cost w) (omega arith)

module _ (cost : ℕ → ℕ) (costs : Sym → Option ℕ) where
  -- a relation between costs in the table and costs of words that sums preserve
  pub record GoesOver (R : ℕ → ℕ → Type 0) : Type 0 where
    pub none : R 0 0
    pub both : (a b m n : ℕ) → R a m → R b n → R (a + b) (m + n)
    pub token : (t c : ℕ) → costs (Token t) ≡ Some c → R c (cost t)

module _ (P : ℕ → List Sym → Type 0) (cost : ℕ → ℕ) (costs : Sym → Option ℕ) where
  -- a word that the symbols yield, whose cost is related to this one
  pub record Made (R : ℕ → ℕ → Type 0) (a : List Sym) (c : ℕ) : Type 0 where
    pub word : List ℕ
    pub tree : Yields P a word
    pub holds : R c (cost_of cost word)

  module _ (R : ℕ → ℕ → Type 0) (over : GoesOver cost costs R) where
    made_both : (a b : List Sym) (c d n : ℕ) → n ≡ c + d → Made R a c → Made R b d → Made R (a ++ b) n
    made_both a b c d n e h k = record {
      word = h.word ++ k.word;
      tree = trees_join P h.tree k.tree;
      holds = subst (λ m. R m (cost_of cost (h.word ++ k.word))) (sym e)
          (subst (R (c + d)) (sym (sum_by-append cost h.word k.word))
          (over.both c d (cost_of cost h.word) (cost_of cost k.word) h.holds k.holds));
    }

    made_token : (t c : ℕ) → costs (Token t) ≡ Some c → Made R (Token t ∷ []) c
    made_token t c e = record {
      word = t ∷ [];
      tree = token empty;
      holds = subst (R c) (sym (cost_of-token cost t [] ∙ omega arith)) (over.token t c e);
    }

    -- what a list of symbols costs is the cost of a word they yield, if this is so of each rule among them
    pub made_sequence : (Q : Sym → Type 0) → ((r c : ℕ) → Q (Rule r) → costs (Rule r) ≡ Some c → Made R (Rule r ∷ []) c)
        → (a : List Sym) (c : ℕ) → All Q a → sum_of costs a ≡ Some c → Made R a c
    made_sequence Q made [] c all e =
        let none : 0 ≡ c = same_Some _ _ e in
        record { word = []; tree = empty; holds = subst (λ n. R n 0) none over.none }
    made_sequence Q made (Token t ∷ a) c all e =
        let p = plus_parts (costs (Token t)) (sum_of costs a) c e in
        made_both (Token t ∷ []) a p.first p.second c p.whole (made_token t p.first p.first_is)
        (made_sequence Q made a p.second (All-tail Q (Token t) a all) p.second_is)
    made_sequence Q made (Rule r ∷ a) c all e =
        let p = plus_parts (costs (Rule r)) (sum_of costs a) c e in
        made_both (Rule r ∷ []) a p.first p.second c p.whole (made r p.first (All-head Q (Rule r) a all) p.first_is)
        (made_sequence Q made a p.second (All-tail Q (Rule r) a all) p.second_is)

-- costs in the table that are costs of words, both cut down to the limit
pub cut_over : (cost : ℕ → ℕ) (least : ℕ → Option ℕ) (limit : ℕ) → GoesOver cost (symbol_cost cost least) (λ c n. min c limit ≡ min n limit)
cut_over cost least limit = record {
  none = refl;
  both = λ a b m n e f. omega (arith, e, f);
  token = λ t c e. let is : cost t ≡ c = same_Some _ _ e in ap (λ n. min n limit) (sym is);
}
