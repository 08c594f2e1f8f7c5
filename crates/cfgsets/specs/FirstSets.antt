-- FIRST sets as tables: a row of bits for each rule, and a bit that says whether it is nullable.
use Rattle.std.specs.Prelude.{◌≡◌, ℕ, ◌+◌, Bool, false, List, length, IsTrue, slice_index_or}
use Rattle.derivation.specs.Grammar.{Sym, Rule, Token, Grammar, HasProduction}
use Rattle.derivation.specs.First.{First, Nullable}
use Rattle.derivation.specs.FirstSets.{AreNullable, Begins}
use Rattle.cfgsets.specs.Table.{Table, IsTable, HasBit, bits_on, count_of}

-- for each rule, a row of bits that says which tokens it may begin with, and a bit that says whether it is nullable
pub record FirstSets : Type 0 where
  pub firsts : Table
  pub nullable : List Bool

abbrev pub IsAmongFirsts : FirstSets → ℕ → ℕ → Type 0
IsAmongFirsts x r t = HasBit x.firsts r t

abbrev pub nullable_bit : FirstSets → ℕ → Bool
nullable_bit x r = slice_index_or x.nullable r false

abbrev pub IsNullableRule : FirstSets → ℕ → Type 0
IsNullableRule x r = IsTrue (nullable_bit x r)

-- the table has a row for each rule and a column for each token, and the list a bit for each rule
pub record FitsGrammar (g : Grammar) (x : FirstSets) : Type 0 where
  pub table : IsTable g.rules g.tokens x.firsts
  pub nullable : length x.nullable ≡ g.rules

-- the sets contain nothing but what derivations show
pub record AreSoundFirsts (g : Grammar) (x : FirstSets) : Type 0 where
  pub fits : FitsGrammar g x
  pub first : (r t : ℕ) → IsAmongFirsts x r t → First (HasProduction g) r t
  pub empty : (r : ℕ) → IsNullableRule x r → Nullable (HasProduction g) r

-- how many bits are on
abbrev pub count_firsts : FirstSets → ℕ
count_firsts x = count_of x.firsts + bits_on x.nullable

-- by the sets, the list may begin with the token
abbrev pub BeginsBy : FirstSets → List Sym → ℕ → Type 0
BeginsBy x a t = Begins (IsNullableRule x) (IsAmongFirsts x) a t

abbrev pub AreNullableBy : FirstSets → List Sym → Type 0
AreNullableBy x a = AreNullable (IsNullableRule x) a

-- whether the symbol is a nullable rule
abbrev pub is_nullable_symbol : FirstSets → Sym → Bool
is_nullable_symbol x (Rule r) = nullable_bit x r
is_nullable_symbol x (Token u) = false
