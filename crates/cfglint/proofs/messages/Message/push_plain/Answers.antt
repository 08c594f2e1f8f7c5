use Rattle.std.proofs.Common.{◌++◌, ap, ◌∙◌, string_bytes}
use Rattle.std.proofs.lemmas.Result.{on_ok_weaker}
use Rattle.cfgrammar.specs.Render.{rendered_in}
use Rattle.cfglint.proofs.ColoredLines.{rendered_said}
use Rattle.cfglint.proofs.messages.Message.push_plain.Goals as goal

pub returns : goal.returns
returns c =
    let source = c.args.source.now in
    let message = c.args.self.now in
    on_ok_weaker c.push.result (λ pushed.
    let (said, is, made) = pushed in
    made ∙ (ap (λ words. string_bytes c.args.lines.now ++ rendered_in source.unit source.name.now source.text words message.spans.now message.spanskind) is
    ∙ ap (λ line. string_bytes c.args.lines.now ++ line)
    (rendered_said source.unit source.name.now source.text message.is_error message.text.now message.spans.now message.spanskind))) c.push.ensures
