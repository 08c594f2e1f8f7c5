-- The first of the minimal sentences of a rule.
use Rattle.std.specs.Prelude.{◌≡◌, ℕ, List}
use Rattle.std.specs.declared.cmp.Ordering.{Ordering}
use Rattle.std.specs.declared.cmp.Ordering.TheVariants.{Greater}
use Rattle.std.specs.Ordering.{nat_cmp}
use Rattle.std.specs.Cmp.Lexicographic.{slice_cmp}
use Rattle.derivation.specs.Grammar.{Sym}
use Rattle.derivation.specs.Costs.{Minimal}

-- lexicographic order, by the numbers of the tokens; a prefix comes first
abbrev pub lexicographic : List ℕ → List ℕ → Ordering
lexicographic = slice_cmp nat_cmp

-- the lexicographically first minimal sentence of the rule
abbrev pub FirstMinimal : (ℕ → List Sym → Type 0) → (ℕ → ℕ) → ℕ → List ℕ → Type 0
FirstMinimal P cost r w = Minimal P cost r w × ((v : List ℕ) → Minimal P cost r v → lexicographic w v ≡ Greater → ⊥)
