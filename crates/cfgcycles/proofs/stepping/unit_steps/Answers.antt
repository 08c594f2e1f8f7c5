use Rattle.std.proofs.Common.{arith}
use Rattle.cfgcycles.proofs.Positions.{all_steps, earlier, more_steps}
use Rattle.cfgcycles.proofs.stepping.unit_steps.Goals as goal

pub loop-production-preserved : goal.loop-production-preserved
loop-production-preserved g c = (
  more_steps _ _ _ _ _ c.loop-production.invariant.0 c.in_ok-put_steps.ensures.put,
  c.in_ok-put_steps.ensures.order c.loop-production.invariant.1 (earlier _ _ _ _ c.loop-production.invariant.0),
)

pub returns : goal.returns
returns g c = all_steps _ c.rules_len.ensures.content c.loop-production.production
    (omega (arith, c.to_usize-productions.ensures.value, c.prods_len.ensures, c.loop-production-test.false)) _ c.loop-production.invariant.0 c.loop-production.invariant.1
