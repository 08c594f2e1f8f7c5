-- Where symbols lead from a place.
use Rattle.std.proofs.Common.{◌≡◌, ℕ, List, [], ◌∷◌, ◌++◌, Option, None, Some, refl, sym, ap, ◌∙◌}
use Rattle.std.specs.Option.{option_and_then}
use Rattle.cfgrammar.specs.Grammar.{Sym}
use Rattle.lr_conflicts.specs.Inner.Ways.{run}

module _ (step : ℕ → Sym → Option ℕ) where
  run_one : (o : Option ℕ) → option_and_then (λ r. run step r []) o ≡ o
  run_one None = refl
  run_one (Some r) = refl

  pub one_run : (q r : ℕ) (x : Sym) → run step q (x ∷ []) ≡ Some r → step q x ≡ Some r
  one_run q r x e = sym (run_one (step q x)) ∙ e

  -- the first symbol leads somewhere, and the others on from there
  pub run_first : (q r : ℕ) (x : Sym) (list : List Sym) → run step q (x ∷ list) ≡ Some r → (m : ℕ) × (step q x ≡ Some m) × (run step m list ≡ Some r)
  run_first q r x list e = go (step q x) refl e
    where
      go : (o : Option ℕ) → step q x ≡ o → option_and_then (λ m. run step m list) o ≡ Some r → (m : ℕ) × (step q x ≡ Some m) × (run step m list ≡ Some r)
      go None is e = absurd (cc)
      go (Some m) is e = (m, is, e)

  -- one symbol more
  pub run_more : (q : ℕ) (list : List Sym) (x : Sym) (r : ℕ) → run step q list ≡ Some r → run step q (list ++ x ∷ []) ≡ step r x
  run_more q [] x r e = let same : q ≡ r = cc in run_one (step q x) ∙ ap (λ m. step m x) same
  run_more q (y ∷ list) x r e =
      let (m, is, rest) = run_first q r y list e in ap (option_and_then (λ m. run step m (list ++ x ∷ []))) is ∙ run_more m list x r rest

  -- where the first part leads, and from there the second
  pub record Splits (q r : ℕ) (a b : List Sym) : Type 0 where
    pub middle : ℕ
    pub first : run step q a ≡ Some middle
    pub second : run step middle b ≡ Some r

  pub run_split : (q r : ℕ) (a b : List Sym) → run step q (a ++ b) ≡ Some r → Splits q r a b
  run_split q r [] b e = record { middle = q; first = refl; second = e }
  run_split q r (y ∷ a) b e =
      let (m, is, rest) = run_first q r y (a ++ b) e in
      let w = run_split m r a b rest in
      record { middle = w.middle; first = ap (option_and_then (λ m. run step m a)) is ∙ w.first; second = w.second }
