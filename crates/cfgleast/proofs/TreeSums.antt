-- What is true of the sums of productions is true of what sentences cost: a table that is closed under the productions is a bound, by
-- induction on parse trees; a well-founded choice of productions reaches the table, by induction on the numbers of the choice.
use Rattle.std.proofs.Common.{◌≡◌, ℕ, zero, suc, ◌+◌, ◌<◌, List, [], ◌∷◌, Option, Some, All, arith, sym, ap, subst, ◌∙◌, append-nil}
use Rattle.std.specs.Prelude.{IsSomeAnd}
use Rattle.std.proofs.lemmas.List.Sums.{sum_by-append}
use Rattle.derivation.specs.Grammar.{Sym, Rule, Token}
use Rattle.derivation.specs.Sentence.{cost_of}
use Rattle.derivation.specs.Tree.{Yields, empty, token, opened}
use Rattle.derivation.specs.Sums.{plus, sum_of}
use Rattle.cfgleast.specs.Certificate.{IsChosenBelow, rule_choice}
use Rattle.derivation.proofs.Made.{GoesOver, Made, cost_of-token, made_sequence}

module _ (P : ℕ → List Sym → Type 0) (cost : ℕ → ℕ) (costs : Sym → Option ℕ) where
  -- a relation between costs in the table and costs of words that sums preserve, and that carries over from productions to their rules
  pub record GoesUp (R : Option ℕ → ℕ → Type 0) : Type 0 where
    pub none : R (Some 0) 0
    pub both : (a b : Option ℕ) (m n : ℕ) → R a m → R b n → R (plus a b) (m + n)
    pub token : (t : ℕ) → R (costs (Token t)) (cost t)
    pub production : (r : ℕ) (symbols : List Sym) (n : ℕ) → P r symbols → R (sum_of costs symbols) n → R (costs (Rule r)) n

  -- it is true of all that parse trees yield
  pub sums_by_trees : (R : Option ℕ → ℕ → Type 0) → GoesUp R → {a : List Sym} {w : List ℕ} → Yields P a w → R (sum_of costs a) (cost_of cost w)
  sums_by_trees R up empty = up.none
  sums_by_trees R up (token {t = t} {a = a} {w = w} h) =
      subst (R (plus (costs (Token t)) (sum_of costs a))) (sym (cost_of-token cost t w))
      (up.both (costs (Token t)) (sum_of costs a) (cost t) (cost_of cost w) (up.token t) (sums_by_trees R up h))
  sums_by_trees R up (opened {r = r} {symbols = symbols} {a = a} {u = u} {w = w} has h k e) =
      subst (R (plus (costs (Rule r)) (sum_of costs a))) (sym (ap (cost_of cost) e ∙ sum_by-append cost u w))
      (up.both (costs (Rule r)) (sum_of costs a) (cost_of cost u) (cost_of cost w)
      (up.production r symbols (cost_of cost u) has (sums_by_trees R up h)) (sums_by_trees R up k))

  -- the choice of a rule, which its cost depends on: the cost is related to all that the production's sum is related to
  pub record Choice (R : ℕ → ℕ → Type 0) (choices : List (Option (ℕ × ℕ))) (r c : ℕ) : Type 0 where
    pub choice : ℕ × ℕ
    pub choice_is : rule_choice choices r ≡ Some choice
    pub symbols : List Sym
    pub sum : ℕ
    pub has : P r symbols
    pub sum_is : sum_of costs symbols ≡ Some sum
    pub holds : (n : ℕ) → R sum n → R c n
    pub below : All (IsChosenBelow choices choice.1) symbols

  module _ (R : ℕ → ℕ → Type 0) (over : GoesOver cost costs R) (choices : List (Option (ℕ × ℕ))) where
    made_rule : (r c : ℕ) (choice : Choice R choices r c) → Made P cost costs R choice.symbols choice.sum → Made P cost costs R (Rule r ∷ []) c
    made_rule r c choice h = record {
      word = h.word;
      tree = opened choice.has h.tree empty (sym (append-nil h.word));
      holds = choice.holds (cost_of cost h.word) h.holds;
    }

    number_below : (n r c : ℕ) (choice : Choice R choices r c) → IsChosenBelow choices n (Rule r) → choice.choice.1 < n
    number_below n r c choice below = subst (λ (o : Option (ℕ × ℕ)). IsSomeAnd o (λ choice. choice.1 < n)) choice.choice_is below

    module _ (chosen : (r c : ℕ) → costs (Rule r) ≡ Some c → Choice R choices r c) where
      made_by : (n r c : ℕ) (choice : Choice R choices r c) → choice.choice.1 < n → Made P cost costs R (Rule r ∷ []) c
      made_by zero r c choice lt = absurd (omega (arith, lt))
      made_by (suc n) r c choice lt = made_rule r c choice (made_sequence P cost costs R over (IsChosenBelow choices choice.choice.1)
          (λ q d below e.
          let next = chosen q d e in
          let less = number_below choice.choice.1 q d next below in
          made_by n q d next (omega (arith, lt, less)))
          choice.symbols choice.sum choice.below choice.sum_is)

      -- each cost that depends on a choice is that of a sentence
      pub reached : (r c : ℕ) → costs (Rule r) ≡ Some c → Made P cost costs R (Rule r ∷ []) c
      reached r c e = let choice = chosen r c e in made_by (suc choice.choice.1) r c choice (omega arith)
