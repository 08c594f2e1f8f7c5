use Rattle.std.proofs.Common.{◌≡◌, ◌-◌, drop, length, length-take, length-drop, sym, ap, ◌∙◌, arith, rules}
use Rattle.cfgrender.specs.Visible.{shown_as}
use Rattle.cfgrender.proofs.Shown.{shown_escape, shown_one}
use Rattle.cfgrender.proofs.visible.shown_width.Goals as goal

pub returns-then-is_escaped : goal.returns-then-is_escaped
returns-then-is_escaped c =
    let escape = c.escape_unicode in
    let shown = ap length (escape.ensures.rest ∙ sym (shown_escape c.args.c (sym c.if-is_escaped.ensures))) in
    let bound = escape.ensures.bound in
    let all : length escape.result.chars ≡ 10 = search rules in
    let back = length-drop escape.result.from escape.result.chars in
    let first = length-take (escape.result.to - escape.result.from) (drop escape.result.from escape.result.chars) in
    omega (arith, c.len.ensures.value)

pub returns-else-is_escaped : goal.returns-else-is_escaped
returns-else-is_escaped c = sym (shown_one c.args.c (sym c.if-is_escaped.ensures))
