-- Productive rules while they are computed: a bit for each rule. A production makes its rule productive if the rules in it all are.
use Rattle.std.proofs.Common.{◌≡◌, ℕ, ◌+◌, ◌*◌, ◌≤◌, Bool, List, IsTrue, arith, length}
use Rattle.std.proofs.Math.Nat.{mul-add, mul-one}
use Rattle.std.proofs.lemmas.List.Sums.{count_by-le-length}
use Rattle.derivation.specs.Grammar.{Grammar, Production, HasProduction}
use Rattle.derivation.specs.Productive.{Productive}
use Rattle.cfganalysis.specs.ProductiveRules.{AreProductiveSymbols, is_productive}
use Rattle.cfgsets.specs.Table.{bits_on}

-- the list has a bit for each rule, and rules whose bits are on are productive
pub record AreSoundProductive (g : Grammar) (bits : List Bool) : Type 0 where
  pub rules : length bits ≡ g.rules
  pub productive : (r : ℕ) → IsTrue (is_productive bits r) → Productive (HasProduction g) r

-- the bit of a production's rule is on, if those of its symbols are
abbrev pub CoverProductiveOf : List Bool → Production → Type 0
CoverProductiveOf bits p = AreProductiveSymbols bits p.symbols → IsTrue (is_productive bits p.rule)

-- the rule's bit is on only if it was
abbrev pub IsNoMoreProductive : ℕ → List Bool → List Bool → Type 0
IsNoMoreProductive r old new = IsTrue (is_productive new r) → IsTrue (is_productive old r)

-- the number of bits that are on is at most the number of bits
pub productive_bounded : (g : Grammar) (bits : List Bool) → AreSoundProductive g bits → bits_on bits ≤ g.rules * (g.tokens + 1)
productive_bounded g bits sound = let rules = sound.rules in
    omega (arith, rules, count_by-le-length (λ (b : Bool). b) bits, mul-add g.rules g.tokens 1, mul-one g.rules)
