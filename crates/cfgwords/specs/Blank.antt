-- Blanks: the longest sequence of spaces, tabs, CRs, LFs, line comments and block comments.
use Rattle.std.specs.Prelude.{◌≡◌, ◌≢◌, ℕ, Bool, true, false, List, [], ◌∷◌, ◌++◌, length, ◌-◌, take, drop, Option, Some, None, Result, Ok, Err, ◌||◌, not, codes, if◌then◌else◌}
use Rattle.std.specs.List.{list_any}
use Rattle.constructs.specs.Pieces.{starts, IsRun, run, strip, IsFirst, split_first}
use Rattle.constructs.specs.Turns.{Turn, again, ends, Turns, all_turns}
use Rattle.cfgwords.specs.declared.fault.Fault.{Fault}
use Rattle.cfgwords.specs.declared.fault.FaultKind.{FaultKind}
use Rattle.cfgwords.specs.declared.fault.FaultKind.TheVariants.{ReachedEOL, IncompleteComment}
use Rattle.cfgwords.specs.declared.bytes.ByteClass.TheVariants as bytes
use denote.Ref.{Bor}
use Rattle.cfgwords.specs.declared.blank.Prefix.{Prefix as CodePrefix}
use Rattle.cfgwords.specs.declared.blank.Prefix.TheVariants as prefixes
use Rattle.cfgwords.specs.Bytes.{holds}
use Rattle.cfgwords.specs.Text.{fault_at}

-- how a blank begins, and the rest after that
pub data Prefix : Type 0 where
  Gap : ℕ → List ℕ → Prefix  -- a space, a tab, a CR or an LF
  LineComment : List ℕ → Prefix  -- from `//` to the end of the line, its CR or LF included, or to the end of the text
  BlockComment : List ℕ → List ℕ → Prefix  -- from `/*` to the next `*/`: what is between them, and the rest
  OpenComment : List ℕ → Prefix  -- a `/*` with no `*/` after it: what follows the `/*`
  Bare : Prefix  -- not part of a blank

abbrev pub IsPrefix : List ℕ → Prefix → Type 0
IsPrefix text (Gap b rest) = (text ≡ b ∷ rest) × (holds bytes.Blank b ≡ true)
IsPrefix text (LineComment rest) = (inside : List ℕ) × (line : List ℕ) × (tail : List ℕ) × (text ≡ codes "//" ++ inside) × IsRun (holds bytes.Line) inside line tail × (rest ≡ drop 1 tail)
IsPrefix text (BlockComment body rest) = (inside : List ℕ) × (text ≡ codes "/*" ++ inside) × IsFirst (codes "*/") inside body rest
IsPrefix text (OpenComment inside) = (text ≡ codes "/*" ++ inside) × ((x y : List ℕ) → inside ≢ x ++ codes "*/" ++ y)
IsPrefix text Bare = (starts (holds bytes.Blank) text ≡ false) × ((x : List ℕ) → text ≢ codes "//" ++ x) × ((x : List ℕ) → text ≢ codes "/*" ++ x)

-- Whether the text begins with a part of a blank: the rest after it, or None if the blank ends, or the fault. A blank within one line
-- refuses a line's end, except for the one that ends a line comment.
abbrev pub part_of : Bool → Prefix → Result (Option (List ℕ)) FaultKind
part_of lines (Gap b rest) = if lines || not (holds bytes.LineEnd b) then Ok (Some rest) else Err ReachedEOL
part_of lines (LineComment rest) = Ok (Some rest)
part_of lines (BlockComment body rest) = if lines || not (list_any (holds bytes.LineEnd) body) then Ok (Some rest) else Err ReachedEOL
part_of lines (OpenComment inside) = if lines || not (list_any (holds bytes.LineEnd) inside) then Err IncompleteComment else Err ReachedEOL
part_of lines Bare = Ok None

-- the blank continues after a part, ends, or stops with a fault here
abbrev pub turn_of : ℕ → List ℕ → Result (Option (List ℕ)) FaultKind → Turn (Result (Unit {0} × List ℕ) Fault)
turn_of len text (Ok (Some rest)) = again (λ r. r) rest
turn_of len text (Ok None) = ends (Ok (tt, text))
turn_of len text (Err kind) = ends (Err (fault_at len kind text))

pub record IsPart (len : ℕ) (lines : Bool) (text : List ℕ) (turn : Turn (Result (Unit {0} × List ℕ) Fault)) : Type 0 where
  pub prefix : Prefix
  pub here : IsPrefix text prefix
  pub turns_to : turn_of len text (part_of lines prefix) ≡ turn

-- a blank in a text of len bytes; lines says whether it may pass a line's end
abbrev pub Blank : ℕ → Bool → List ℕ → Result (Unit {0} × List ℕ) Fault → Type 0
Blank len lines = Turns (IsPart len lines)

-- The same as functions.

abbrev pub comment_prefix : List ℕ → Option (List ℕ × List ℕ) → Prefix
comment_prefix inside (Some (body, rest)) = BlockComment body rest
comment_prefix inside None = OpenComment inside

abbrev pub other_prefix : List ℕ → Prefix
other_prefix [] = Bare
other_prefix (b ∷ rest) = if holds bytes.Blank b then Gap b rest else Bare

abbrev pub block_prefix : List ℕ → Option (List ℕ) → Prefix
block_prefix text (Some inside) = comment_prefix inside (split_first (codes "*/") inside)
block_prefix text None = other_prefix text

abbrev pub line_prefix : List ℕ → Option (List ℕ) → Prefix
line_prefix text (Some inside) = LineComment (drop 1 (run (holds bytes.Line) inside).1)
line_prefix text None = block_prefix text (strip (codes "/*") text)

unfoldable pub prefix_of : List ℕ → Prefix
prefix_of text = line_prefix text (strip (codes "//") text)

unfoldable pub blank_step : ℕ → Bool → List ℕ → Turn (Result (Unit {0} × List ℕ) Fault)
blank_step len lines text = turn_of len text (part_of lines (prefix_of text))

unfoldable pub blank : ℕ → Bool → List ℕ → Result (Unit {0} × List ℕ) Fault
blank len lines text = all_turns (blank_step len lines) (Ok (tt, [])) text

-- whether there is a CR or an LF between the offset where text begins and the later one where rest does
unfoldable pub passes_line_end : List ℕ → List ℕ → Bool
passes_line_end text rest = list_any (holds bytes.LineEnd) (take (length text - length rest) text)

-- what the code's value represents
abbrev pub prefix_view : CodePrefix → Prefix
prefix_view (prefixes.Gap b rest) = Gap b rest.now
prefix_view (prefixes.LineComment rest) = LineComment rest.now
prefix_view (prefixes.BlockComment body rest) = BlockComment body.now rest.now
prefix_view (prefixes.OpenComment inside) = OpenComment inside.now
prefix_view prefixes.Bare = Bare

abbrev pub part_view : Result (Option (Bor (List ℕ))) FaultKind → Result (Option (List ℕ)) FaultKind
part_view (Ok (Some rest)) = Ok (Some rest.now)
part_view (Ok None) = Ok None
part_view (Err kind) = Err kind
