-- Sums of costs, some of which may be missing.
use Rattle.std.proofs.Common.{◌≡◌, ℕ, ◌+◌, List, [], ◌∷◌, ◌++◌, Option, Some, None, arith, refl, sym, ap, ◌∙◌}
use Rattle.derivation.specs.Grammar.{Sym}
use Rattle.derivation.specs.Sums.{plus, sum_of}

-- a sum that exists has two parts that do
pub record PlusParts (a b : Option ℕ) (n : ℕ) : Type 0 where
  pub first : ℕ
  pub second : ℕ
  pub first_is : a ≡ Some first
  pub second_is : b ≡ Some second
  pub whole : n ≡ first + second

pub plus_parts : (a b : Option ℕ) (n : ℕ) → plus a b ≡ Some n → PlusParts a b n
plus_parts None b n e = let no : None ≡ Some n = e in absurd (cc)
plus_parts (Some m) None n e = let no : None ≡ Some n = e in absurd (cc)
plus_parts (Some m) (Some k) n e = let same : Some (m + k) ≡ Some n = e in
    record { first = m; second = k; first_is = refl; second_is = refl; whole = cc }

pub plus_both : (a b : Option ℕ) (m n : ℕ) → a ≡ Some m → b ≡ Some n → plus a b ≡ Some (m + n)
plus_both a b m n e f = ap (λ o. plus o b) e ∙ ap (plus (Some m)) f

pub plus_assoc : (a b c : Option ℕ) → plus (plus a b) c ≡ plus a (plus b c)
plus_assoc None b c = refl
plus_assoc (Some m) None c = refl
plus_assoc (Some m) (Some n) None = refl
plus_assoc (Some m) (Some n) (Some k) = ap Some (omega arith)

pub zero_plus : (a : Option ℕ) → plus (Some 0) a ≡ a
zero_plus None = refl
zero_plus (Some n) = ap Some (omega arith)

pub sum_of-append : (costs : Sym → Option ℕ) (a b : List Sym) → sum_of costs (a ++ b) ≡ plus (sum_of costs a) (sum_of costs b)
sum_of-append costs [] b = sym (zero_plus (sum_of costs b))
sum_of-append costs (s ∷ a) b =
    ap (plus (costs s)) (sum_of-append costs a b) ∙ sym (plus_assoc (costs s) (sum_of costs a) (sum_of costs b))

-- a single symbol costs what it costs in a list of its own
pub plus_zero : (a : Option ℕ) → plus a (Some 0) ≡ a
plus_zero None = refl
plus_zero (Some n) = ap Some (omega arith)
