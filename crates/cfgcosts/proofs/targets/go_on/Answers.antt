use Rattle.std.proofs.Common.{◌<◌, length, length-set, ◌∙◌, arith}
use Rattle.cfgcosts.proofs.OnlyTargets.{gone_on, target_within}
use Rattle.cfgcosts.proofs.targets.go_on.Goals as goal

pub index-requires-in-loop-number : goal.index-requires-in-loop-number
index-requires-in-loop-number g c =
    let items = c.loop-number.targets.items in
    let lt : c.loop-number.number < length items = omega (arith, c.loop-number-test.true, c.len-number-end.ensures, c.args.targets.now.ok.0, c.loop-number.invariant.len) in
    let (grammar, kinds, are) = c.requires in
    let less = target_within g.S.Storage.number items c.loop-number.number c.from.result c.index.result.now lt c.index.ensures c.from.ensures grammar kinds (c.loop-number.invariant.still grammar kinds are) in
    omega (arith, less, c.loop-number.targets.ok.0)

pub loop-number-preserved : goal.loop-number-preserved
loop-number-preserved g c =
    let number = g.S.Storage.number in
    let items = c.loop-number.targets.items in
    let n = c.loop-number.number in
    let lt : n < length items = omega (arith, c.loop-number-test.true, c.len-number-end.ensures, c.args.targets.now.ok.0, c.loop-number.invariant.len) in
    record {
      len = length-set items n c.index-in-loop-number.result.now ∙ c.loop-number.invariant.len;
      still = λ grammar kinds are. gone_on number items n c.from.result c.index.result.now lt c.index.ensures c.from.ensures grammar kinds (c.loop-number.invariant.still grammar kinds are)
          c.index-in-loop-number.result.now c.index-in-loop-number.ensures;
    }
