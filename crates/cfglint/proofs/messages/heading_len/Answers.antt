use Rattle.std.proofs.Common.{◌≡◌, ◌++◌, [], length, string_bytes, ap, ◌∙◌, arith}
use Rattle.cfgrammar.specs.Render.{note_line}
use Rattle.cfglint.proofs.ColoredLines.{length-empty_note}
use Rattle.cfglint.proofs.messages.heading_len.Goals as goal

pub overflow_sub-result : goal.overflow_sub-result
overflow_sub-result c =
    let source = c.args.source.now in
    let note = note_line source.unit source.name.now source.text [] c.args.offset in
    let bytes : string_bytes c.push_note.new.out ≡ note = c.in_ok-push_note.ensures ∙ ap (λ old. old ++ note) c.new-line.ensures.bytes in
    omega (arith, c.len.ensures, c.push_note.new.out.bytes.ok.0, ap length bytes, length-empty_note source.unit source.name.now source.text c.args.offset)

pub returns : goal.returns
returns c =
    let source = c.args.source.now in
    let note = note_line source.unit source.name.now source.text [] c.args.offset in
    let bytes : string_bytes c.push_note.new.out ≡ note = c.in_ok-push_note.ensures ∙ ap (λ old. old ++ note) c.new-line.ensures.bytes in
    omega (arith, c.len.ensures, c.push_note.new.out.bytes.ok.0, ap length bytes, length-empty_note source.unit source.name.now source.text c.args.offset)
