-- Words split into one part for each symbol of a list, and induction over parse trees by such splits.
use Rattle.std.proofs.Common.{ℕ, List, [], ◌∷◌, append-nil, sym, subst, ◌∙◌}
use Rattle.derivation.specs.Grammar.{Sym, Rule}
use Rattle.derivation.specs.Tree.{Yields, empty, token, opened}
use Rattle.derivation.proofs.Trees.{trees_join}
use Rattle.cfgchoices.specs.Splits.{Split, done, itself, part}

pub Split-map : (F G : ℕ → List ℕ → Type 0) → ((r : ℕ) (u : List ℕ) → F r u → G r u) → {a : List Sym} {w : List ℕ} → Split F a w → Split G a w
Split-map F G f done = done
Split-map F G f (itself s) = itself (Split-map F G f s)
Split-map F G f (part {r = r} {u = u} h s e) = part (f r u h) (Split-map F G f s) e

pub split_one : (F : ℕ → List ℕ → Type 0) (r : ℕ) (w : List ℕ) → Split F (Rule r ∷ []) w → F r w
split_one F r w (part {u = u} h done e) = subst (F r) (sym (e ∙ append-nil u)) h

module _ (P : ℕ → List Sym → Type 0) where
  abbrev pub IsYielded : ℕ → List ℕ → Type 0
  IsYielded r w = Yields P (Rule r ∷ []) w

  pub trees_from_split : {a : List Sym} {w : List ℕ} → Split IsYielded a w → Yields P a w
  trees_from_split done = empty
  trees_from_split (itself s) = token (trees_from_split s)
  trees_from_split (part {r = r} {a = a} h s e) = subst (Yields P (Rule r ∷ a)) (sym e) (trees_join P h (trees_from_split s))

  -- what is true of a rule and a word, if it is true of the rules and parts of one of the rule's productions, is true of all that rules
  -- yield
  module _ (F : ℕ → List ℕ → Type 0) where
    abbrev pub IsYieldedAnd : ℕ → List ℕ → Type 0
    IsYieldedAnd r w = IsYielded r w × F r w

    module _ (goes_up : (r : ℕ) (symbols : List Sym) (w : List ℕ) → P r symbols → Yields P symbols w → Split IsYieldedAnd symbols w → F r w) where
      pub by_trees : {a : List Sym} {w : List ℕ} → Yields P a w → Split IsYieldedAnd a w
      by_trees empty = done
      by_trees (token h) = itself (by_trees h)
      by_trees (opened {r = r} {symbols = symbols} {u = u} has h k e) =
          part (opened has h empty (sym (append-nil u)), goes_up r symbols u has h (by_trees h)) (by_trees k) e

      pub by_rules : (r : ℕ) (w : List ℕ) → IsYielded r w → F r w
      by_rules r w tree = (split_one IsYieldedAnd r w (by_trees tree)).1
