use Rattle.std.proofs.Common.{◌≡◌, ◌-◌, take, drop, min, sym, ap, ◌∙◌, arith}
use Rattle.std.specs.List.{slice_range}
use Rattle.cfgrender.specs.Render.{ceil_char_boundary}
use Rattle.cfgrender.proofs.Boundaries.{ceil_is}
use Rattle.cfgrender.proofs.excerpt.shown_span.Goals as goal

pub returns-then-start-stop : goal.returns-then-start-stop
returns-then-start-stop c =
    let line = c.args.line.now in
    let ceil = c.ceil_char_boundary.ensures in
    let end = ceil_is line c.args.end c.ceil_char_boundary.result ceil.bound ceil.boundary ceil.nearest ceil.beyond in
    c.range.ensures.value ∙ ap (slice_range line c.args.start) (c.min-stop.ensures ∙ ap (λ end. min end c.args.window_end) end)

pub returns-else-start-stop : goal.returns-else-start-stop
returns-else-start-stop c =
    let line = c.args.line.now in
    let ceil = c.ceil_char_boundary.ensures in
    let end = ceil_is line c.args.end c.ceil_char_boundary.result ceil.bound ceil.boundary ceil.nearest ceil.beyond in
    let none : min (ceil_char_boundary line c.args.end) c.args.window_end - c.args.start ≡ 0 = omega (arith, c.min-stop.ensures, end) in
    sym (ap (λ n. take n (drop c.args.start line)) none)
