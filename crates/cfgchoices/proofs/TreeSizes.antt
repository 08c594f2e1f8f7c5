-- What the choices give for symbols, in numbers: how many tokens, and how many rules are replaced on the way.
use Rattle.std.proofs.Common.{◌≡◌, ℕ, zero, suc, ◌+◌, ◌<◌, List, [], ◌∷◌, Option, Some, None, All, arith, refl, sym, ap, ◌∙◌}
use Rattle.std.specs.Prelude.{IfSome, sum_by}
use Rattle.std.proofs.lemmas.Option.{IfSome_then}
use Rattle.std.proofs.lemmas.List.Sums.{sum_by-cons}
use Rattle.std.proofs.lemmas.List.Elements.{All-head, All-tail}
use Rattle.derivation.specs.Grammar.{Sym, Rule, Token, Grammar}
use Rattle.cfgtables.specs.Openings.{nth_production}
use Rattle.cfgleast.specs.Certificate.{rule_choice}
use Rattle.cfgchoices.specs.FirstChoices.{IsBelowIfChosen}
pub use Rattle.cfgchoices.specs.Inner.Candidates.{tree_size, tree_size_of}

-- sums of equal terms are equal
sum_by-same : {X : Type 0} (Q : X → Type 0) (f g : X → ℕ) → ((x : X) → Q x → f x ≡ g x) → (xs : List X) → All Q xs → sum_by f xs ≡ sum_by g xs
sum_by-same Q f g same [] all = refl
sum_by-same Q f g same (x ∷ xs) all =
    let here = same x (All-head Q x xs all) in
    let rest = sum_by-same Q f g same xs (All-tail Q x xs all) in
    let whole = sum_by-cons f x xs in
    let other = sum_by-cons g x xs in
    omega (arith, here, rest, whole, other)

-- no number is below 0
none_below : (o : Option (ℕ × ℕ)) → IfSome o (λ choice. choice.1 < 0) → o ≡ None
none_below None h = refl
none_below (Some choice) h = absurd (omega (arith, h))

module _ (g : Grammar) (choices : List (Option (ℕ × ℕ))) (each : ℕ) where
  abbrev size : ℕ → Sym → ℕ
  size = tree_size g choices each

  abbrev size_of : (Sym → ℕ) → Option (ℕ × ℕ) → ℕ
  size_of = tree_size_of g each

  pub tree_size_positive : 0 < each → (n : ℕ) (s : Sym) → 0 < size n s
  unfolding tree_size
  tree_size_positive some zero (Token t) = omega arith
  tree_size_positive some (suc n) (Token t) = omega arith
  tree_size_positive some zero (Rule r) = some
  tree_size_positive some (suc n) (Rule r) = go (rule_choice choices r)
    where
      go : (o : Option (ℕ × ℕ)) → 0 < size_of (size n) o
      go None = some
      go (Some choice) = omega (arith, some)

  module _ (below : (r p m : ℕ) → rule_choice choices r ≡ Some (p, m) → All (IsBelowIfChosen choices m) (nth_production g p).symbols) where
    lower : (n m : ℕ) (s : Sym) → m < n + 1 → IsBelowIfChosen choices m s → IsBelowIfChosen choices n s
    lower n m (Token t) lt h = tt
    lower n m (Rule r) lt h = IfSome_then (rule_choice choices r) h (λ choice below. omega (arith, below, lt))

    -- it is enough to go as deep as the numbers of the choices
    tree_size_same : (n m : ℕ) (s : Sym) → IsBelowIfChosen choices n s → IsBelowIfChosen choices m s → size n s ≡ size m s
    unfolding tree_size
    tree_size_same zero zero (Token t) h k = refl
    tree_size_same zero zero (Rule r) h k = refl
    tree_size_same zero (suc m) (Token t) h k = refl
    tree_size_same (suc n) zero (Token t) h k = refl
    tree_size_same (suc n) (suc m) (Token t) h k = refl
    tree_size_same zero (suc m) (Rule r) h k = ap (size_of (size m)) (sym (none_below (rule_choice choices r) h))
    tree_size_same (suc n) zero (Rule r) h k = ap (size_of (size n)) (none_below (rule_choice choices r) k)
    tree_size_same (suc n) (suc m) (Rule r) h k = go (λ s. tree_size_same n m s) (rule_choice choices r) refl h k
      where
        go : ((s : Sym) → IsBelowIfChosen choices n s → IsBelowIfChosen choices m s → size n s ≡ size m s) → (o : Option (ℕ × ℕ)) → rule_choice choices r ≡ o
            → IfSome o (λ choice. choice.1 < suc n) → IfSome o (λ choice. choice.1 < suc m) → size_of (size n) o ≡ size_of (size m) o
        go same None e h k = refl
        go same (Some choice) e h k = ap (λ c. c + each) (sum_by-same (IsBelowIfChosen choices choice.1) (size n) (size m)
            (λ s lt. same s (lower n choice.1 s (omega (arith, h)) lt) (lower m choice.1 s (omega (arith, k)) lt))
            (nth_production g choice.0).symbols (below r choice.0 choice.1 e))

    -- a tree is as large as those of its symbols, and `each`
    pub tree_size_opened : (n r p m : ℕ) → rule_choice choices r ≡ Some (p, m) → m < n
        → size n (Rule r) ≡ sum_by (size n) (nth_production g p).symbols + each
    unfolding tree_size
    tree_size_opened zero r p m e lt = absurd (omega (arith, lt))
    tree_size_opened (suc n) r p m e lt = ap (size_of (size n)) e ∙ ap (λ c. c + each) (sum_by-same (IsBelowIfChosen choices m) (size n) (size (suc n))
        (λ s h. tree_size_same n (suc n) s (lower n m s (omega (arith, lt)) h) (lower (suc n) m s (omega (arith, lt)) h))
        (nth_production g p).symbols (below r p m e))
