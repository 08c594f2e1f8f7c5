use Rattle.std.proofs.Common.{◌≡◌, ◌∙◌, ap, get_or, rules}
use Rattle.cfglines.proofs.LineEnds.{line_end_is}
use Rattle.cfglines.proofs.newlinecache.NewlineCache.span_line_bytes.Goals as goal

pub returns : goal.returns
returns c text holds =
    let found : c.unwrap_or-end.result ≡ get_or c.deref.result.now c.newlines_before-after.result c.self.inside.len = search rules in
    let end = line_end_is text c.args.span.end in
    let positions = c.deref.ensures.value ∙ ap (λ kept. kept.newlines) c.self.view_is ∙ holds.newlines in
    let len = ap (λ kept. kept.bytes) c.self.view_is ∙ holds.bytes in
    let before = c.newlines_before-after.ensures.value text holds in
    let start = c.line_start.ensures text holds in
    cc
