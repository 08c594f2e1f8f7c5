use Rattle.std.proofs.Common.{◌<◌, length, arith, ap, ◌+◌, ◌∙◌, sym, false}
use Rattle.std.proofs.lemmas.List.Sums.{count_by_more_yes, count_by_more_no}
use Rattle.cfgindex.proofs.SetBits.{bit_read}
use Rattle.cfgindex.proofs.vob.Vob.count.Goals as goal
use Rattle.cfgindex.proofs.vob.Vob.count.Goals.{then-unwrap_or, else-unwrap_or}

pub loop-i-preserved : goal.loop-i-preserved
loop-i-preserved c =
    let within : c.loop-i.i < length c.args.self.now = omega (arith, c.loop-i-test.true, c.len-i-end.ensures) in
    let read = bit_read c.args.self.now c.loop-i.i _ _ within c.get.ensures c.unwrap_or.ensures in
    elim c.if-unwrap_or.branch [
      | then-unwrap_or w ↦ w.count-is ∙ ap (λ n. n + 1) c.loop-i.invariant ∙ sym (count_by_more_yes (λ b. b) c.args.self.now c.loop-i.i false within (read ∙ w.if-unwrap_or.true))
      | else-unwrap_or w ↦ w.count-is ∙ c.loop-i.invariant ∙ sym (count_by_more_no (λ b. b) c.args.self.now c.loop-i.i false within (read ∙ w.if-unwrap_or.false))
    ]
