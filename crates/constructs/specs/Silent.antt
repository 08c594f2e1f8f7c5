-- Pieces in which nothing counts as read.
use Rattle.std.specs.Prelude.{◌≡◌, ℕ, ◌≤◌, List, [], length, Result, Ok}
use Rattle.constructs.specs.Graph.{IsGraph}
use Rattle.constructs.specs.Read.{Read}

-- A kind of such pieces, one of which is at the start of every text: its value and the rest, or a fault. `reads` is the plain program.
pub record PieceKind (F A : Type 0) : Type 1 where
  pub Is : List ℕ → Result (A × List ℕ) F → Type 0
  pub reads : List ℕ → Result (A × List ℕ) F
  pub graph : IsGraph Is reads
  pub no_longer : (text : List ℕ) (a : A) (rest : List ℕ) → reads text ≡ Ok (a, rest) → length rest ≤ length text

-- a piece that Is allows, with no items
pub record Silently {I F A : Type 0} (Is : List ℕ → Result (A × List ℕ) F → Type 0) (text : List ℕ) (r : Read I F A) : Type 0 where
  pub silent : r.items ≡ []
  pub outcome : Is text r.outcome

abbrev pub silently : {I F A : Type 0} → (List ℕ → Result (A × List ℕ) F) → List ℕ → Read I F A
silently reads text = record { items = []; outcome = reads text }
