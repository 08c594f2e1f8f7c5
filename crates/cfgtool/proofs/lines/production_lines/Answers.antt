use Rattle.cfgtool.proofs.Written.{all_written, one_more_written}
use Rattle.cfgtool.proofs.lines.production_lines.Goals as goal

pub loop-pidx-preserved : goal.loop-pidx-preserved
loop-pidx-preserved c = one_more_written _ _ _ _ _ c.loop-pidx.invariant c.next.new.self _ _ c.in-Some.ensures.steps c.in_ok-write_production.ensures

pub returns : goal.returns
returns c = all_written _ _ _ _ _ c.loop-pidx.invariant c.in-None.ensures.steps.0
