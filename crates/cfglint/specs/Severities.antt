-- Errors and findings as people read them, but for their notes: with their severities, which are coloured or not.
use Rattle.std.specs.Prelude.{ℕ, Bool, true, false, if◌then◌else◌, List, [], ◌∷◌, ◌++◌, codes}
use Rattle.cfgrammar.specs.Span.{Span}
use Rattle.cfgrammar.specs.SpansKind.{SpansKind}
use Rattle.cfgrammar.specs.ColumnUnit.{ColumnUnit}
use Rattle.cfgrammar.specs.Render.{excerpt, heading, is_offset, message_line, reported_also}
use Rattle.cfgrammar.specs.Visible.{visible}

-- The severity, with colours or not, of an error or of a warning. Colours are those of terminals: an escape sequence begins with the byte
-- 27, and here the first makes what follows bold and red, or bold and magenta, and the second ends that.
abbrev pub severity : Bool → Bool → List ℕ
severity false true = codes "error:"
severity false false = codes "warning:"
severity true true = 27 ∷ codes "[1;31merror:" ++ 27 ∷ codes "[0m"
severity true false = 27 ∷ codes "[1;35mwarning:" ++ 27 ∷ codes "[0m"

-- in a text of this name, with columns in this unit
module _ (unit : ColumnUnit) (name text : List ℕ) where
  -- where these spans are, as the line of what is reported at them begins
  abbrev pub place : List Span → List ℕ
  place [] = visible name ++ codes ": "
  place (first ∷ others) = heading unit name text first.start

  -- what follows that line: the line of the text where the first span starts, with its carets, and the other spans if they are duplicates'
  abbrev pub excerpts : List Span → SpansKind → List ℕ
  excerpts [] kind = []
  excerpts (first ∷ others) kind = (if is_offset text first.start then excerpt text first else []) ++ reported_also unit kind name text others

-- What is printed, with colours or not, of an error or a warning that says this, with these spans, and spans of this kind: what `rendered_in`
-- says, but for the colours.
abbrev pub printed : ColumnUnit → Bool → List ℕ → List ℕ → Bool → List ℕ → List Span → SpansKind → List ℕ
printed unit colors name text is_error words spans kind = place unit name text spans
    ++ (severity colors is_error ++ (codes " " ++ (message_line words ++ excerpts unit name text spans kind)))
