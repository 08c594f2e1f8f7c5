-- What a concatenation derives.
use Rattle.std.specs.Prelude.{◌≡◌, ℕ, List, ◌++◌}
use Rattle.derivation.specs.Grammar.{Sym}
use Rattle.derivation.specs.Derivation.{Derives}

-- c is a list that a derives, followed by one that b derives
pub record DerivedInParts (P : ℕ → List Sym → Type 0) (a b c : List Sym) : Type 0 where
  pub prefix : List Sym
  pub back : List Sym
  pub whole : c ≡ prefix ++ back
  pub first : Derives P a prefix
  pub second : Derives P b back
