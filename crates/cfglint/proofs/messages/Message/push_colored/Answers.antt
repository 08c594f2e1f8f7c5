use Rattle.std.proofs.Common.{◌≡◌, ◌+◌, ◌++◌, true, false, codes, length, string_bytes, ap, ◌∙◌}
use Rattle.std.specs.List.{replace_range}
use Rattle.cfgrammar.specs.Render.{message_line}
use Rattle.cfglint.specs.Severities.{excerpts, place, severity}
use Rattle.cfglint.proofs.ColoredLines.{pushed, replaced}
use Rattle.cfglint.proofs.messages.Message.push_colored.Goals as goal

pub returns : goal.returns
returns c =
    let source = c.args.source.now in
    let message = c.args.self.now in
    let before = place source.unit source.name.now source.text message.spans.now in
    let plain = severity false message.is_error in
    let colored = severity true message.is_error in
    let rest = codes " " ++ (message_line message.text.now ++ excerpts source.unit source.name.now source.text message.spans.now message.spanskind) in
    let own : string_bytes c.push_plain.new.lines ≡ before ++ (plain ++ rest) =
    c.in_ok-push_plain.ensures ∙ ap (λ old. old ++ (before ++ (plain ++ rest))) c.new-own.ensures.bytes in
    let start = c.in_ok-start.ensures in
    let made : string_bytes c.replace_range.new.self ≡ before ++ (colored ++ rest) =
    c.in_ok-replace_range.ensures.bytes
    ∙ ((λ i. replace_range (own i) (start i) (start i + length (c.severity.ensures i)) (c.severity-2.ensures i))
    ∙ replaced before plain rest colored) in
    pushed c.push_str.result _ _ _ _ c.push_str.ensures.bytes (ap (λ own. string_bytes c.args.lines.now ++ own) (c.deref.ensures ∙ made))
