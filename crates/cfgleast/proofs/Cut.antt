-- Sums that are cut down to 65536 while they are computed.
use Rattle.std.proofs.Common.{◌≡◌, ℕ, ◌+◌, min, List, [], ◌∷◌, Option, Some, arith, refl, sym, ap, ◌∙◌}
use Rattle.derivation.specs.Grammar.{Sym}
use Rattle.derivation.specs.Sums.{plus, sum_of}
use Rattle.derivation.proofs.Sums.{plus_assoc, zero_plus}

-- the sum of the symbols that were added, cut down; the rest is still to come
pub record SumSoFar (costs : Sym → Option ℕ) (all rest : List Sym) (sum : ℕ) : Type 0 where
  pub so_far : ℕ
  pub cut : sum ≡ min so_far 65536
  pub whole : sum_of costs all ≡ plus (Some so_far) (sum_of costs rest)

module _ (costs : Sym → Option ℕ) (all : List Sym) where
  pub sum_none : SumSoFar costs all all 0
  sum_none = record { so_far = 0; cut = refl; whole = sym (zero_plus (sum_of costs all)) }

  pub sum_one : (s : Sym) (rest : List Sym) (sum c new : ℕ) → SumSoFar costs all (s ∷ rest) sum → costs s ≡ Some c → new ≡ min 65536 (sum + c)
      → SumSoFar costs all rest new
  sum_one s rest sum c new w e made = record {
    so_far = w.so_far + c;
    cut = omega (arith, w.cut, made);
    whole = w.whole ∙ sym (plus_assoc (Some w.so_far) (costs s) (sum_of costs rest)) ∙ ap (λ o. plus (plus (Some w.so_far) o) (sum_of costs rest)) e;
  }
