use Rattle.std.proofs.Common.{◌≡◌, ◌+◌, ◌≤◌, length, sym, subst, ap, ◌∙◌, arith}
use Rattle.std.specs.Fmt.{take_chars}
use Rattle.std.specs.Str.{IsCharBoundary}
use Rattle.cfgrender.specs.Render.{window_end}
use Rattle.cfgrender.proofs.Windows.{ends_after, window_before, window_end_boundary}
use Rattle.cfgrender.proofs.window.window.Goals as goal

pub overflow_add-result : goal.overflow_add-result
overflow_add-result c =
    let line = c.args.line.now in
    let end : c.window_start-first.result + c.characters_len.result ≡ window_end line c.args.start =
    ends_after line c.args.start _ _ c.window_start-first.ensures.value (c.characters_len.ensures ∙ ap (λ piece. length (take_chars 160 piece)) c.range_from.ensures.value) in
    let within : window_end line c.args.start ≤ length line = (window_end_boundary line c.args.start).0 in
    omega arith

pub returns-clause-value : goal.returns-clause-value
returns-clause-value c =
    let line = c.args.line.now in
    let end : c.window_start-first.result + c.characters_len.result ≡ window_end line c.args.start =
    ends_after line c.args.start _ _ c.window_start-first.ensures.value (c.characters_len.ensures ∙ ap (λ piece. length (take_chars 160 piece)) c.range_from.ensures.value) in
    λ i. (c.window_start-first.ensures.value i, end i)

pub returns-clause-before : goal.returns-clause-before
returns-clause-before c = subst (λ first. first ≤ c.args.start) (sym c.window_start-first.ensures.value) (window_before c.args.line.now c.args.start c.requires)

pub returns-clause-ends : goal.returns-clause-ends
returns-clause-ends c =
    let line = c.args.line.now in
    let end : c.window_start-first.result + c.characters_len.result ≡ window_end line c.args.start =
    ends_after line c.args.start _ _ c.window_start-first.ensures.value (c.characters_len.ensures ∙ ap (λ piece. length (take_chars 160 piece)) c.range_from.ensures.value) in
    subst (IsCharBoundary line) (sym end) (window_end_boundary line c.args.start)
