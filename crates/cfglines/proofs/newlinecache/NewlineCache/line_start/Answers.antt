use Rattle.std.proofs.Common.{◌≡◌, ◌+◌, ◌<◌, ◌∙◌, ap, get_or, length, take, subst, sym, arith}
use Rattle.std.proofs.lemmas.List.{get_or_default}
use Rattle.cfglines.specs.Lines.{StandsFor, newlines_of}
use Rattle.cfglines.proofs.LineEnds.{line_start-le, line_start_none, line_start_some}
use Rattle.cfglines.proofs.newlinecache.NewlineCache.line_start.Goals as goal

pub returns-in-Some : goal.returns-in-Some
returns-in-Some c text holds =
    let positions = ap (λ kept. kept.newlines) c.self.view_is ∙ holds.newlines in
    let before = c.newlines_before.ensures.value text holds in
    let some : length (newlines_of (take c.args.byte text)) ≡ c.in-Some.last + 1 = omega (arith, before, c.in-Some.ensures) in
    let within : c.in-Some.last < length (newlines_of text) = omega (arith, ap length holds.newlines, c.in-Some.ensures) in
    let last = c.index.ensures ∙ ap (λ all. get_or all c.in-Some.last c.index.result.now) positions ∙ get_or_default _ _ _ 0 within in
    ap (λ n. n + 1) last ∙ sym (line_start_some text c.args.byte c.in-Some.last some)

pub overflow_add-result : goal.overflow_add-result
overflow_add-result c =
    let text = c.self.invariant.0 in
    let holds : StandsFor c.args.self.now text = subst (λ kept. StandsFor kept text) c.self.view_is c.self.invariant.1 in
    omega (arith, returns-in-Some c text holds, line_start-le text c.args.byte)

pub returns-in-None : goal.returns-in-None
returns-in-None c text holds =
    sym (line_start_none text c.args.byte (omega (arith, c.newlines_before.ensures.value text holds, c.in-None.ensures)))
