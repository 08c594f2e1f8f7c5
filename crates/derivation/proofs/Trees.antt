-- A list of symbols derives the tokens that its parse trees yield, and no others.
use Rattle.std.proofs.Common.{◌≡◌, ℕ, List, [], ◌∷◌, ◌++◌, map, append_assoc, refl, sym, ap, subst, ◌∙◌}
use Rattle.std.proofs.lemmas.List.{map-append}
use Rattle.derivation.specs.Grammar.{Sym, Rule, Token}
use Rattle.derivation.specs.Derivation.{Step, Derives, none, next}
use Rattle.derivation.specs.Tree.{Yields, empty, token, opened}
use Rattle.derivation.proofs.Concatenation.{derives_trans, derives_left, derives_right, derives_both, derives_production}

module _ (P : ℕ → List Sym → Type 0) where
  -- a sequence of trees split in two, and the tokens of each part
  pub record Parts (a b : List Sym) (w : List ℕ) : Type 0 where
    pub prefix : List ℕ
    pub back : List ℕ
    pub whole : w ≡ prefix ++ back
    pub first : Yields P a prefix
    pub second : Yields P b back

  pub trees_split : (a b : List Sym) (w : List ℕ) → Yields P (a ++ b) w → Parts a b w
  trees_split [] b w h = record { prefix = []; back = w; whole = refl; first = empty; second = h }
  trees_split (Token t ∷ a) b _ (token {w = w} h) = let p = trees_split a b w h in record {
    prefix = t ∷ p.prefix;
    back = p.back;
    whole = ap (λ l. t ∷ l) p.whole;
    first = token p.first;
    second = p.second;
  }
  trees_split (Rule r ∷ a) b _ (opened {u = u} {w = w} has h k e) = let p = trees_split a b w k in record {
    prefix = u ++ p.prefix;
    back = p.back;
    whole = e ∙ ap (λ l. u ++ l) p.whole ∙ sym (append_assoc u p.prefix p.back);
    first = opened has h p.first refl;
    second = p.second;
  }

  pub trees_join : {a b : List Sym} {u v : List ℕ} → Yields P a u → Yields P b v → Yields P (a ++ b) (u ++ v)
  trees_join empty k = k
  trees_join (token h) k = token (trees_join h k)
  trees_join {v = v} (opened {u = u} {w = w} has h i e) k = opened has h (trees_join i k) (ap (λ l. l ++ v) e ∙ append_assoc u w v)

  pub trees_of_tokens : (w : List ℕ) → Yields P (map Token w) w
  trees_of_tokens [] = empty
  trees_of_tokens (t ∷ w) = token (trees_of_tokens w)

  -- the trees of a rule's symbols, below it
  tree_before : {a b : List Sym} (w : List ℕ) → Step P a b → Yields P b w → Yields P a w
  tree_before w s h =
      let p = trees_split s.before (s.symbols ++ s.after) w (subst (λ l. Yields P l w) s.target h) in
      let q = trees_split s.symbols s.after p.back p.second in
      subst (λ l. Yields P l w) (sym s.source)
      (subst (Yields P (s.before ++ (Rule s.rule ∷ s.after))) (sym p.whole)
      (trees_join p.first (opened s.has q.first q.second q.whole)))

  pub trees_before : {a b : List Sym} (w : List ℕ) → Derives P a b → Yields P b w → Yields P a w
  trees_before w none h = h
  trees_before w (next s d) h = tree_before w s (trees_before w d h)

  pub trees_from_derivation : (a : List Sym) (w : List ℕ) → Derives P a (map Token w) → Yields P a w
  trees_from_derivation a w d = trees_before w d (trees_of_tokens w)

  pub derivation_from_trees : {a : List Sym} {w : List ℕ} → Yields P a w → Derives P a (map Token w)
  derivation_from_trees empty = none
  derivation_from_trees (token {t = t} h) = derives_left P (Token t ∷ []) (derivation_from_trees h)
  derivation_from_trees (opened {r = r} {symbols = symbols} {a = a} {u = u} {w = w} has h k e) =
      subst (Derives P (Rule r ∷ a)) (sym (map-append Token u w) ∙ ap (map Token) (sym e))
      (derives_trans P (derives_right P a (derives_production P r symbols has))
      (derives_both P (map Token u) (map Token w) (derivation_from_trees h) (derivation_from_trees k)))
