use Rattle.std.proofs.Common.{◌≡◌, ◌-◌, length, inl, inr, sym, subst, arith}
use Rattle.std.specs.Fmt.{take_chars}
use Rattle.std.specs.Str.{IsUtf8}
use Rattle.cfgrender.specs.Render.{characters}
use Rattle.cfgrender.proofs.Cuts.{cut_back}
use Rattle.cfgrender.proofs.window.last_start.Goals as goal

pub returns-else-left-gt0 : goal.returns-else-left-gt0
returns-else-left-gt0 c =
    let value = c.as_bytes-bytes.ensures.value in
    let start = c.loop-start.start in
    let (within, counted, begins) = c.loop-start.invariant in
    subst (λ bytes. start ≡ length (take_chars (characters bytes - c.args.count) bytes)) value
    (cut_back c.as_bytes-bytes.result.now c.args.count c.loop-start.left start (subst IsUtf8 (sym value) c.utf8.text) within counted begins
    (inr (omega arith)))

pub returns-after-loop-start : goal.returns-after-loop-start
returns-after-loop-start c =
    let value = c.as_bytes-bytes.ensures.value in
    let start = c.loop-start.start in
    let (within, counted, begins) = c.loop-start.invariant in
    subst (λ bytes. start ≡ length (take_chars (characters bytes - c.args.count) bytes)) value
    (cut_back c.as_bytes-bytes.result.now c.args.count c.loop-start.left start (subst IsUtf8 (sym value) c.utf8.text) within counted begins
    (inl (omega arith)))
