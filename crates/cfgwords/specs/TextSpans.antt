-- Character boundaries of a text: where a character begins, and the text's end. A span goes from one boundary to the same or a later one,
-- so what it names is a piece of the text. The span of a trimmed text has the trimmed length, but begins where the untrimmed text does, so
-- it may end inside a character: it only lies within the text.
use Rattle.std.specs.Prelude.{ℕ, ◌≤◌, List, length}
use Rattle.std.specs.Str.{IsCharBoundary}
use Rattle.cfgbase.specs.declared.span.Span.{Span}

pub record IsPiece (text : List ℕ) (span : Span) : Type 0 where
  pub ordered : span.start ≤ span.end
  pub begins_at : IsCharBoundary text span.start
  pub ends_at : IsCharBoundary text span.end

pub record IsWithin (text : List ℕ) (span : Span) : Type 0 where
  pub ordered : span.start ≤ span.end
  pub within : span.end ≤ length text
