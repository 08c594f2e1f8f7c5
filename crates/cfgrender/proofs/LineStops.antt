-- A line without its line end is a piece of its text.
use Rattle.std.proofs.Common.{◌≡◌, ℕ, ◌-◌, ◌<◌, ◌≤◌, Bool, true, false, if◌then◌else◌, List, length, drop, get_or, get_or-drop, length-take, length-drop, ⊎_elim, subst, ◌∙◌, ap, sym, refl, arith}
use Rattle.std.proofs.lemmas.Bool.{cases_lt, and_parts, eqb-true, ltb-true}
use Rattle.std.proofs.lemmas.List.Sums.{passes_at_first, prefix_len-le-length}
use Rattle.std.proofs.lemmas.Str.{IsCharBoundary-end, IsCharBoundary-before_ascii}
use Rattle.std.specs.List.{position_or_len}
use Rattle.std.specs.Str.{IsCharBoundary}
use Rattle.cfglines.specs.Lines.{is_newline, ends_crlf, line_start, line_end}
use Rattle.cfglines.proofs.LineEnds.{is_other, line_start-le, line_end-position}
use Rattle.cfglines.proofs.LinePrefixes.{before_line_start}
use Rattle.cfgrender.specs.Render.{line_stop}

-- a line ends in the text, and not before the offset
pub line_end_bounds : (text : List ℕ) (b : ℕ) → b ≤ length text
    → (b ≤ line_end text b) × (line_end text b ≤ length text)
line_end_bounds text b within =
    let end = line_end-position text b in
    let rest = prefix_len-le-length is_other (drop b text) in
    let prefix = length-take b text in
    let back = length-drop b text in
    (omega arith, omega arith)

-- there is an LF where a line ends, unless the text ends there
at_line_end : (text : List ℕ) (b : ℕ) → b ≤ length text → line_end text b < length text
    → get_or text (line_end text b) 0 ≡ 10
at_line_end text b within inside =
    let n = position_or_len is_newline (drop b text) in
    let end = line_end-position text b in
    let prefix = length-take b text in
    let back = length-drop b text in
    let offset : get_or (drop b text) n 0 ≡ get_or text (line_end text b) 0 =
    get_or-drop b text n 0 ∙ ap (λ i. get_or text i 0) (omega arith) in
    sym offset ∙ eqb-true _ 10 (passes_at_first is_newline (drop b text) 0 (omega arith))

-- an LF right after a CR
pub crlf_bytes : (text : List ℕ) (b : ℕ) → ends_crlf text b ≡ true
    → (0 < b) × (get_or text b 0 ≡ 10) × (get_or text (b - 1) 0 ≡ 13)
crlf_bytes text b h =
    let (some, bytes) = and_parts _ _ h in
    let (newline, return) = and_parts _ _ bytes in
    (ltb-true 0 b some, eqb-true _ 10 newline, eqb-true _ 13 return)

whole_line_ends : (text : List ℕ) (b : ℕ) → b ≤ length text → IsCharBoundary text (line_end text b)
whole_line_ends text b within =
    let bounds = line_end_bounds text b within in
    ⊎_elim
    (λ inside. let newline = at_line_end text b within inside in
    IsCharBoundary-before_ascii text (line_end text b) inside (omega arith))
    (λ end. subst (IsCharBoundary text) (omega arith) (IsCharBoundary-end text))
    (cases_lt (line_end text b) (length text))

-- a line without its line end ends where a character does, and not before the line starts
pub line_stop_ends : (text : List ℕ) (b : ℕ) → b ≤ length text
    → (line_start text b ≤ line_stop text b) × IsCharBoundary text (line_stop text b)
line_stop_ends text b within = by_its_end (ends_crlf text (line_end text b)) refl
  where
    not_empty : 0 < line_end text b → get_or text (line_end text b - 1) 0 ≡ 13 → line_start text b < line_end text b
    not_empty some return = ⊎_elim (λ less. less)
        (λ over.
        let start = line_start-le text b in
        let bounds = line_end_bounds text b within in
        let newline = before_line_start text b (omega arith) in
        let same : get_or text (line_start text b - 1) 0 ≡ get_or text (line_end text b - 1) 0 =
        ap (λ i. get_or text (i - 1) 0) (omega arith) in
        absurd (omega arith))
        (cases_lt (line_start text b) (line_end text b))

    end_if : Bool → ℕ
    end_if crlf = if crlf then line_end text b - 1 else line_end text b

    by_its_end : (crlf : Bool) → ends_crlf text (line_end text b) ≡ crlf
        → (line_start text b ≤ end_if crlf) × IsCharBoundary text (end_if crlf)
    by_its_end false _ =
        let start = line_start-le text b in
        let bounds = line_end_bounds text b within in
        (omega arith, whole_line_ends text b within)
    by_its_end true h =
        let bounds = line_end_bounds text b within in
        let return = crlf_bytes text (line_end text b) h in
        let more = not_empty return.0 return.2 in
        (omega arith, IsCharBoundary-before_ascii text (line_end text b - 1) (omega arith) (omega arith))
