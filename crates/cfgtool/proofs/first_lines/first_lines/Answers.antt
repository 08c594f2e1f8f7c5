use Rattle.cfgtool.proofs.Written.{all_written, one_more_written}
use Rattle.cfgtool.proofs.first_lines.first_lines.Goals as goal

pub loop-ridx-preserved : goal.loop-ridx-preserved
loop-ridx-preserved c = one_more_written _ _ _ _ _ c.loop-ridx.invariant c.next.new.self _ _ c.in-Some.ensures.steps c.in_ok-write_line.ensures

pub returns : goal.returns
returns c = all_written _ _ _ _ _ c.loop-ridx.invariant c.in-None.ensures.steps.0
