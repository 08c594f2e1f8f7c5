use Rattle.std.proofs.Common.{◌≡◌, ◌+◌, [], ◌∷◌, ◌++◌, take, sym, arith, string_bytes}
use Rattle.std.proofs.lemmas.Grind.{common_steps}
use Rattle.std.proofs.lemmas.List.{take_all}
use Rattle.cfgrender.specs.Render.{none}
use Rattle.cfgrender.proofs.Several.{one_more}
use Rattle.cfgrender.proofs.message.render_all.Goals as goal

pub loop-error-init : goal.loop-error-init
loop-error-init g c = rw c.new-out.ensures.bytes none

pub loop-error-preserved : goal.loop-error-preserved
loop-error-preserved g c =
    let reported = c.in_ok-push.ensures in
    let shown = take c.loop-error.error-index c.args.errors.now in
    let next : shown ++ c.error-item.result ∷ [] ≡ take (c.loop-error.error-index + 1) c.args.errors.now = grind (arith, common_steps) in
    let source = c.in_ok-source.ensures in
    one_more _ _ _ c.args.name.now c.args.text.now shown _ c.error-item.result reported.0 (string_bytes c.loop-error.out) _ c.loop-error.invariant reported.1 next
    (rw (sym source.name, sym source.text, sym source.unit) reported.2)

pub returns : goal.returns
returns g c = rw (take_all c.loop-error.error-index c.args.errors.now c.loop-error-test.false) at c.loop-error.invariant
