use Rattle.std.proofs.Common.{◌≡◌, ℕ, ◌+◌, ◌≤◌, List, length, min, count_by, Option, Some, None, unwrap_or, SomeIff, ap, ◌∙◌, subst, arith}
use Rattle.std.proofs.lemmas.List.{take_min}
use Rattle.cfgrammar.specs.Lines.{is_newline, line_number}
use Rattle.cfgfindings.specs.Shown.{offset_of}
use Rattle.cfglint.proofs.allowed.Allowances.line_of.Goals as goal

-- past its end a text has no more lines
line_within : (text : List ℕ) (offset : ℕ) → line_number text (min offset (length text)) ≡ line_number text offset
unfolding line_number
line_within text offset = ap (λ t. count_by is_newline t + 1) (take_min offset text)

line_there : (text : List ℕ) (offset : ℕ) (line : Option ℕ)
    → SomeIff line (min offset (length text) ≤ length text) (line_number text (min offset (length text))) → unwrap_or line 0 ≡ line_number text offset
line_there text offset None none = absurd (none (omega (arith)))
line_there text offset (Some line) (within, is) = is ∙ line_within text offset

pub returns : goal.returns
returns c =
    let text = c.args.text.now in
    let offset = offset_of c.args.finding.now in
    c.unwrap_or.ensures ∙ line_there text offset c.byte_to_line_num.result
    (subst (λ byte. SomeIff c.byte_to_line_num.result (byte ≤ length text) (line_number text byte)) (c.min-offset.ensures ∙ ap (λ o. min o (length text)) c.offset.ensures)
    (c.byte_to_line_num.ensures text c.requires.newlines))
