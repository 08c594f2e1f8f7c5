use Rattle.std.proofs.Common.{arith, sym, subst}
use Rattle.cfgwords.proofs.Balance.{IsAtDepth, depth_start, depth_unclosed, depth_ends, depth_opens, depth_closes, depth_stays}
use Rattle.cfgwords.proofs.actions.balanced_len.Goals as goal
use Rattle.cfgwords.proofs.actions.balanced_len.Goals.{then-b-eq123, else-b-eq123+then-b-eq125+else-depth-eq0, else-b-eq123+else-b-eq125}

pub loop-i-init : goal.loop-i-init
loop-i-init c = depth_start c.args.bytes.now

pub returns-then-depth-eq0 : goal.returns-then-depth-eq0
returns-then-depth-eq0 c = depth_ends c.args.bytes.now c.loop-i.i c.loop-i.depth c.loop-i.invariant c.loop-i-test.true c.if-b-eq125.true c.if-depth-eq0.true

pub loop-i-preserved : goal.loop-i-preserved
loop-i-preserved c = elim c.if-b-eq123.branch [
  | then-b-eq123 w ↦ depth_opens c.args.bytes.now c.loop-i.i c.loop-i.depth _ c.loop-i.invariant c.loop-i-test.true w.if-b-eq123.true w.depth-is
  | else-b-eq123+then-b-eq125+else-depth-eq0 w ↦
      depth_closes c.args.bytes.now c.loop-i.i c.loop-i.depth _ c.loop-i.invariant c.loop-i-test.true w.if-b-eq125.true (omega arith)
  | else-b-eq123+else-b-eq125 w ↦
      subst (IsAtDepth c.args.bytes.now _) (sym w.depth-is)
      (depth_stays c.args.bytes.now c.loop-i.i c.loop-i.depth c.loop-i.invariant c.loop-i-test.true w.if-b-eq123.false w.if-b-eq125.false)
]

pub returns : goal.returns
returns c = depth_unclosed c.args.bytes.now c.loop-i.i c.loop-i.depth c.loop-i.invariant c.loop-i-test.false
