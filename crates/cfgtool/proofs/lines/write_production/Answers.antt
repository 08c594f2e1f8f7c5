use Rattle.std.proofs.Common.{◌++◌, ◌∙◌, codes, string_bytes, ap}
use Rattle.std.specs.Fmt.{decimal}
use Rattle.cfgtool.proofs.Reported.{line_added}
use Rattle.cfgtool.proofs.lines.write_production.Goals as goal

pub returns : goal.returns
returns c =
    let old = string_bytes c.args.lines.now in
    let text = c.in_ok-push_prod.ensures.added.0 in
    let digits = c.in_ok-push_str.ensures.bytes ∙ ap (λ t. old ++ t) (c.format.ensures.text ∙ ap decimal c.from.ensures) in
    let spaced = c.in_ok-push_str-2.ensures.bytes ∙ ap (λ t. t ++ codes " ") digits in
    line_added c.push_str-3.result c.args.grammar.now c.args.pidx.0 text old _ _ c.in_ok-push_prod.ensures.added.1
    (c.in_ok-push_prod.ensures.added.2 ∙ ap (λ t. t ++ text) spaced) c.push_str-3.ensures.bytes
