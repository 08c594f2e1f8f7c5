use Rattle.std.proofs.Common.{◌≡◌, ◌-◌, length, take, sym, subst, ap, ◌∙◌, arith}
use Rattle.std.specs.Fmt.{take_chars}
use Rattle.std.specs.Str.{IsCharBoundary}
use Rattle.cfgrender.specs.Render.{characters}
use Rattle.cfgrender.proofs.Windows.{starts_before, starts_whole, window_start_boundary}
use Rattle.cfgrender.proofs.window.window_start.Goals as goal

pub returns-then-characters_len-line-clause-value : goal.returns-then-characters_len-line-clause-value
returns-then-characters_len-line-clause-value c =
    starts_whole c.args.line.now c.args.start c.utf8.line (sym c.characters_len.ensures ∙ c.if-characters_len-line.true)

pub returns-then-characters_len-line-clause-begins : goal.returns-then-characters_len-line-clause-begins
returns-then-characters_len-line-clause-begins c =
    let value = starts_whole c.args.line.now c.args.start c.utf8.line (sym c.characters_len.ensures ∙ c.if-characters_len-line.true) in
    subst (IsCharBoundary c.args.line.now) (sym value) (window_start_boundary c.args.line.now c.args.start)

pub returns-else-characters_len-line-clause-value : goal.returns-else-characters_len-line-clause-value
returns-else-characters_len-line-clause-value c =
    let line = c.args.line.now in
    let from_start : c.args.start - 0 ≡ c.args.start = omega arith in
    let prefix : c.range.result.now ≡ take c.args.start line = c.range.ensures.value ∙ ap (λ n. take n line) from_start in
    starts_before line c.args.start c.last_start.result c.requires (λ all. c.if-characters_len-line.false (c.characters_len.ensures ∙ all))
    (c.last_start.ensures ∙ ap (λ piece. length (take_chars (characters piece - 40) piece)) prefix)

pub returns-else-characters_len-line-clause-begins : goal.returns-else-characters_len-line-clause-begins
returns-else-characters_len-line-clause-begins c =
    let line = c.args.line.now in
    let from_start : c.args.start - 0 ≡ c.args.start = omega arith in
    let prefix : c.range.result.now ≡ take c.args.start line = c.range.ensures.value ∙ ap (λ n. take n line) from_start in
    let value = starts_before line c.args.start c.last_start.result c.requires (λ all. c.if-characters_len-line.false (c.characters_len.ensures ∙ all))
    (c.last_start.ensures ∙ ap (λ piece. length (take_chars (characters piece - 40) piece)) prefix) in
    subst (IsCharBoundary line) (sym value) (window_start_boundary line c.args.start)
