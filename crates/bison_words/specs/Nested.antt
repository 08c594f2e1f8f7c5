-- What is between a bracket and the one that closes it, read piece by piece. A turn's value says what a piece is for the nesting.
use Rattle.std.specs.Prelude.{◌≡◌, ℕ, Bool, true, false, List, [], ◌++◌, ◌+◌, nat_le, Option, Some, None, Result, Ok, Err, if◌then◌else◌}
use Rattle.constructs.specs.Read.{Read}
use Rattle.constructs.specs.Turns.{Turn, again, ends, Turns, all_turns}
use Rattle.constructs.specs.Construct.{Says, computes}
use Rattle.bison_words.specs.declared.nesting.Nesting.{Nesting}
use Rattle.bison_words.specs.declared.nesting.Nesting.TheVariants.{Opens, Lowers, Closes, Stays}
use Rattle.bison_words.specs.declared.nesting.Depth.{Depth}
use Rattle.bison_words.specs.Words.{Item}
use Rattle.bison_words.specs.Here.{Turn as Pieces}

-- No depth if the piece closes the outermost bracket. Only some of what lowers the depth may close that one, so the depth may become
-- negative: what was opened and what was lowered are counted apart.
abbrev pub after_piece : Nesting → Depth → Option Depth
after_piece Opens depth = Some (record { opened = depth.opened + 1; lowered = depth.lowered })
after_piece Lowers depth = Some (record { opened = depth.opened; lowered = depth.lowered + 1 })
after_piece Closes depth = if nat_le depth.opened depth.lowered then None else Some (record { opened = depth.opened; lowered = depth.lowered + 1 })
after_piece Stays depth = Some depth

abbrev pub outermost : Depth
outermost = record { opened = 0; lowered = 0 }

-- what was read, and whether the outermost bracket was closed; the same with the rest
pub record Found : Type 0 where
  pub items : List Item
  pub closed : Bool

pub record Passage : Type 0 where
  pub found : Found
  pub rest : List ℕ

abbrev pub ended : List Item → Bool → List ℕ → Passage
ended items closed rest = record { found = record { items = items; closed = closed }; rest = rest }

abbrev pub with_items : List Item → Passage → Passage
with_items items p = ended (items ++ p.found.items) p.found.closed p.rest

-- what follows a piece, by the depth that it leaves
abbrev pub onward : List Item → List ℕ → (Depth → Passage) → Option Depth → Passage
onward items rest go (Some depth) = with_items items (go depth)
onward items rest go None = ended items true rest

abbrev pub step_outcome : List Item → Result (Option Nesting × List ℕ) ⊥ → Turn (Depth → Passage)
step_outcome items (Ok (Some piece, rest)) = again (λ go depth. onward items rest go (after_piece piece depth)) rest
step_outcome items (Ok (None, rest)) = ends (λ depth. ended items false rest)
step_outcome items (Err fault) = absurd fault

-- what a piece makes of what follows it, from each depth on
abbrev pub step_of : Read Item ⊥ (Option Nesting) → Turn (Depth → Passage)
step_of r = step_outcome r.items r.outcome

abbrev pub found_of : Passage → Result (Found × List ℕ) ⊥
found_of p = Ok (p.found, p.rest)

-- the pieces of no text
abbrev pub nothing : Depth → Passage
nothing depth = ended [] false []

module _ (piece : Pieces Nesting) where
  pub data IsStep (text : List ℕ) : Turn (Depth → Passage) → Type 0 where
    step : (r : Read Item ⊥ (Option Nesting)) → Says piece text r → IsStep text (step_of r)

  -- what is found from the outermost depth on
  pub record IsNested (text : List ℕ) (r : Result (Found × List ℕ) ⊥) : Type 0 where
    pub passes : Depth → Passage
    pub pieces : Turns IsStep text passes
    pub found : found_of (passes outermost) ≡ r

  -- The same as functions.

  unfoldable pub passage : List ℕ → Depth → Passage
  passage = all_turns (λ text. step_of (computes piece text)) nothing

  abbrev pub nested : List ℕ → Result (Found × List ℕ) ⊥
  nested text = found_of (passage text outermost)
