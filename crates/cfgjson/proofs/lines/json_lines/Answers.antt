use Rattle.std.proofs.Common.{◌≡◌, ◌+◌, [], ◌∷◌, ◌++◌, take, string_bytes, arith}
use Rattle.std.proofs.lemmas.Grind.{common_steps}
use Rattle.std.proofs.lemmas.List.{take_all}
use Rattle.cfgjson.specs.Objects.{diagnostic_object, none}
use Rattle.cfgjson.proofs.LineTexts.{one_more}
use Rattle.cfgjson.proofs.lines.json_lines.Goals as goal

pub loop-one-init : goal.loop-one-init
loop-one-init g c = rw c.new-lines.ensures.bytes none

pub loop-one-preserved : goal.loop-one-preserved
loop-one-preserved g c =
    let shown = take c.loop-one.one-index c.args.all.now in
    let next : shown ++ c.one-item.result ∷ [] ≡ take (c.loop-one.one-index + 1) c.args.all.now = grind (arith, common_steps) in
    one_more (λ one. diagnostic_object c.args.name.now c.args.text.now (g.E.Diagnosed.shown one)) shown _ c.one-item.result (string_bytes c.loop-one.lines) _ c.loop-one.invariant
    (rw (c.in_ok-positions.ensures, c.diagnostic.ensures) at c.in_ok-push_line.ensures) next

pub returns : goal.returns
returns g c = rw (take_all c.loop-one.one-index c.args.all.now c.loop-one-test.false) at c.loop-one.invariant
