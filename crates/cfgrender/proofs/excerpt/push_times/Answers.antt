use Rattle.std.proofs.Common.{sym, arith}
use Rattle.std.proofs.lemmas.Grind.{common_steps}
use Rattle.cfgrender.proofs.Carets.{repeat_more}
use Rattle.cfgrender.proofs.excerpt.push_times.Goals as goal

pub loop-preserved : goal.loop-preserved
loop-preserved c = rw (sym (repeat_more c.loop.counter c.args.text.now)) (grind (arith, common_steps, c.loop.invariant))
