-- A production is used by a sentence of its rule exactly if each rule in it is productive.
use Rattle.std.proofs.Common.{ℕ, List, [], ◌∷◌, ◌++◌, Contains, map, append-nil, sym, subst}
use Rattle.std.proofs.lemmas.List.Elements.{Contains-append_left, Contains-append_right, Contains-push}
use Rattle.derivation.specs.Grammar.{Sym, Rule, Token}
use Rattle.derivation.specs.Derivation.{Derives, none}
use Rattle.derivation.specs.Tree.{Yields, empty, token}
use Rattle.derivation.specs.Sentence.{Sentence}
use Rattle.derivation.proofs.Paths.{around}
use Rattle.derivation.proofs.Trees.{trees_split, trees_join, trees_from_derivation, derivation_from_trees}
use Rattle.derivation.specs.Uses.{IsUsable}

module _ (P : ℕ → List Sym → Type 0) where
  -- the rules of a sequence of trees are productive
  sentence_inside : (a : List Sym) (w : List ℕ) (r : ℕ) → Yields P a w → Contains a (Rule r) → (v : List ℕ) × Sentence P r v
  sentence_inside a w r t h =
      let k = around a (Rule r) h in
      let p = trees_split P k.before (Rule r ∷ k.after) w (subst (λ l. Yields P l w) k.whole t) in
      let q = trees_split P (Rule r ∷ []) k.after p.back p.second in
      (q.prefix, derivation_from_trees P q.first)

  -- if each rule of a list is productive, the list derives tokens
  trees_of : (a : List Sym) → ((r : ℕ) → Contains a (Rule r) → (v : List ℕ) × Sentence P r v) → (w : List ℕ) × Yields P a w
  trees_of [] h = ([], empty)
  trees_of (Token t ∷ a) h =
      let (w, rest) = trees_of a (λ r k. h r (Contains-append_right (Token t ∷ []) a (Rule r) k)) in
      (t ∷ w, token rest)
  trees_of (Rule r ∷ a) h =
      let (w, rest) = trees_of a (λ q k. h q (Contains-append_right (Rule r ∷ []) a (Rule q) k)) in
      let (v, first) = h r (Contains-append_left (Rule r ∷ []) a (Rule r) (Contains-push [] (Rule r))) in
      (v ++ w, trees_join P (trees_from_derivation P (Rule r ∷ []) v first) rest)

  pub sentences_in_used : (r : ℕ) (symbols : List Sym) → IsUsable P r symbols → (q : ℕ) → Contains symbols (Rule q)
      → (v : List ℕ) × Sentence P q v
  sentences_in_used r symbols (w, u) q h =
      let p = trees_split P u.before (symbols ++ u.after) w
      (trees_from_derivation P (u.before ++ (symbols ++ u.after)) w u.gives) in
      let s = trees_split P symbols u.after p.back p.second in
      sentence_inside symbols s.prefix q s.first h

  pub used_by_sentence : (r : ℕ) (symbols : List Sym) → P r symbols
      → ((q : ℕ) → Contains symbols (Rule q) → (v : List ℕ) × Sentence P q v) → IsUsable P r symbols
  used_by_sentence r symbols has h =
      let (w, trees) = trees_of symbols h in (
        w,
        record {
          before = [];
          after = [];
          leads = none;
          has = has;
          gives = subst (λ l. Derives P l (map Token w)) (sym (append-nil symbols)) (derivation_from_trees P trees);
        },
      )
