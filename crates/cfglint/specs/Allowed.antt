-- Findings that a comment in the text allows: `cfglint-allow WORD` allows findings of this word's kind in its line and in the next one.
use Rattle.std.specs.Prelude.{◌≡◌, ℕ, ◌-◌, ◌||◌, Bool, List, [], codes, get_or, is_some, map}
use Rattle.std.specs.List.{slice_split}
use Rattle.std.specs.Option.{option_map_or}
use Rattle.cfgrammar.specs.Lines.{StandsFor, is_newline, line_number}
use Rattle.cfgrammar.specs.Pieces.{split_first, strip}
use Rattle.finding_kinds.specs.declared.finding_kind.FindingKind.{FindingKind}
use Rattle.finding_kinds.specs.FindingKinds.{word_of}
use Rattle.cfgfindings.specs.Shown.{ShownFinding, offset_of}
use Rattle.cfglint.specs.declared.allowed.Allowances.{Allowances}

-- what follows the first `cfglint-allow ` of a line; nothing in a line without one
abbrev pub allowed_in : List ℕ → List ℕ
allowed_in line = option_map_or (λ parts. parts.1) (split_first (codes "cfglint-allow ") line) []

-- what the lines of a text allow, line by line
abbrev pub allowed_lines : List ℕ → List (List ℕ)
allowed_lines text = map allowed_in (slice_split is_newline text)

-- whether the word of this kind is what a line allows; lines are numbered from 0
abbrev pub allows : List (List ℕ) → FindingKind → ℕ → Bool
allows lines kind line = is_some (strip (word_of kind) (get_or lines line []))

-- whether the line of the finding allows it, or the line before, if there is one
abbrev pub is_allowed : List ℕ → ShownFinding → Bool
is_allowed text finding = let line = line_number text (offset_of finding) in
    allows (allowed_lines text) finding.kind (line - 1) || allows (allowed_lines text) finding.kind (line - 2)

-- these are the allowances of the text
pub record AreOf (text : List ℕ) (allowances : Allowances) : Type 0 where
  pub lines : map (λ line. line.now) allowances.lines.items ≡ allowed_lines text
  pub newlines : StandsFor allowances.newlines text
