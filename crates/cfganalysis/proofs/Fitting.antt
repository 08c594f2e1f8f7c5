-- The numbers of openings fit, since rules, tokens and productions are counted by an index type.
use Rattle.std.proofs.Common.{◌≡◌, ℕ, ◌+◌, ◌*◌, ◌<◌, ◌≤◌, length, arith}
use Rattle.std.proofs.lemmas.Nat.{mul-le}
use Rattle.derivation.specs.Grammar.{Grammar, IsGrammar}
use Rattle.cfgtables.specs.Openings.{AreOpenedAtMost, most_openings}
use Rattle.cfganalysis.specs.Inner.Visits.{CanVisit}

pub openings_fit : (g : Grammar) (rules tokens most : ℕ) → rules ≡ g.rules → tokens ≡ g.tokens → rules ≤ most → tokens ≤ most → most < 4294967296
    → most_openings g < 18446744073709551615
openings_fit g rules tokens most e f h k lt =
    let m : g.rules * (g.tokens + 1) ≤ 4294967295 * 4294967296 = mul-le g.rules (g.tokens + 1) 4294967295 4294967296 (omega arith) (omega arith) in
    omega arith

product_fits : (n m most : ℕ) → n ≤ most → most < 4294967296 → m < 18446744073709551615 → n * m < 340282366920938463463374607431768211455
product_fits n m most h lt k =
    let p : n * m ≤ 4294967295 * 18446744073709551615 = mul-le n m 4294967295 18446744073709551615 (omega arith) (omega arith) in
    omega arith

pub can_visit : (g : Grammar) (positions most : ℕ) → IsGrammar g → positions ≡ length g.productions → positions ≤ most → most < 4294967296
    → most_openings g < 18446744073709551615 → CanVisit most g
can_visit g positions most is e h lt small = record {
  grammar = is;
  fits = omega arith;
  small = small;
  all_small = product_fits (length g.productions) (most_openings g) most (omega arith) lt small;
}

-- productions that were not opened were opened few times
pub still_few : (most : ℕ) (g : Grammar) (opened : ℕ → ℕ) (all : ℕ) → ((q : ℕ) → q < length g.productions → opened q ≡ 0) → all ≡ 0
    → AreOpenedAtMost most g opened all
still_few most g opened all fresh none = record { each = λ q lt. let h = fresh q lt in omega (arith, h); together = omega (arith, none) }
