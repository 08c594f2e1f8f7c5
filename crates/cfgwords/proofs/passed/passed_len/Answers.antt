use Rattle.cfgwords.proofs.PassedLemmas.{counted_start, counted_within, counted_on, counted_end}
use Rattle.cfgwords.proofs.passed.passed_len.Goals as goal

pub loop-step-init : goal.loop-step-init
loop-step-init c = counted_start c.args.kind c.args.bytes.now _ c.step_len-step.ensures

pub slice_bounds-step_len-count : goal.slice_bounds-step_len-count
slice_bounds-step_len-count c = counted_within c.args.kind c.args.bytes.now c.loop-step.i c.loop-step.step c.loop-step.invariant

pub slice_bounds-step_len-start : goal.slice_bounds-step_len-start
slice_bounds-step_len-start c = counted_within c.args.kind c.args.bytes.now c.loop-step.i c.loop-step.step c.loop-step.invariant

pub loop-step-preserved : goal.loop-step-preserved
loop-step-preserved c = counted_on c.args.kind c.args.bytes.now c.loop-step.i c.loop-step.step _ c.loop-step.invariant c.step_len-step-in-loop-step.ensures

pub returns : goal.returns
returns c = counted_end c.args.kind c.args.bytes.now c.loop-step.i c.loop-step.step c.loop-step.invariant c.loop-step-test.false
