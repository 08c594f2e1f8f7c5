use Rattle.std.proofs.Common.{◌≡◌, ◌++◌, [], true, false, length, string_bytes, ap, ◌∙◌, arith}
use Rattle.cfgrammar.specs.SpansKind.TheVariants.{Error}
use Rattle.cfglint.specs.Severities.{printed}
use Rattle.cfglint.proofs.ColoredLines.{length-empty_error}
use Rattle.cfglint.proofs.messages.name_len.Goals as goal

pub returns : goal.returns
returns c =
    let source = c.args.source.now in
    let empty = printed source.unit false source.name.now source.text true [] [] Error in
    let bytes : string_bytes c.push_plain.new.lines ≡ empty = c.in_ok-push_plain.ensures ∙ ap (λ old. old ++ empty) c.new-line.ensures.bytes in
    omega (arith, c.len.ensures, c.push_plain.new.lines.bytes.ok.0, ap length bytes, length-empty_error source.unit source.name.now source.text)
