use Rattle.std.proofs.Common.{refl}
use Rattle.std.proofs.lemmas.Result.{err_from_is_err_and}
use Rattle.cfgreader.specs.Rules.{part}
use Rattle.cfgreader.specs.Inner.Builds.{parts_view}
use Rattle.cfgreader.proofs.Parts.{parts_start, parts_on, parts_smaller, parts_done, parts_fail, parts_shorter}
use Rattle.cfgreader.proofs.reader.Reader.more_parts.Goals as goal

pub loop-init : goal.loop-init
loop-init c = parts_start part (parts_view c.args.parts.now) c.args.self.now c.args.parts.now refl

pub loop-smaller : goal.loop-smaller
loop-smaller c = parts_smaller part (parts_view c.args.parts.now) c.args.self.now c.loop.self c.loop.parts c.loop.invariant c.later_part.new.self c.later_part.new.parts (rw c.if-branch.true at c.in_ok-later_part.ensures)

pub loop-preserved : goal.loop-preserved
loop-preserved c = parts_on part (parts_view c.args.parts.now) c.args.self.now c.loop.self c.loop.parts c.loop.invariant c.later_part.new.self c.later_part.new.parts (rw c.if-branch.true at c.in_ok-later_part.ensures)

pub returns-in_err-later_part-clause-read : goal.returns-in_err-later_part-clause-read
returns-in_err-later_part-clause-read c =
    let p = err_from_is_err_and c.from_residual.result c.from_residual.ensures.1 in
    rw (p.1, p.2) (parts_fail part (parts_view c.args.parts.now) c.args.self.now c.loop.self c.loop.parts c.loop.invariant c.later_part.new.self _ c.in_err-later_part.ensures)

pub returns-clause-read : goal.returns-clause-read
returns-clause-read c = parts_done part (parts_view c.args.parts.now) c.args.self.now c.loop.self c.loop.parts c.loop.invariant c.later_part.new.self c.later_part.new.parts (rw c.if-branch.false at c.in_ok-later_part.ensures)

pub returns-clause-shorter : goal.returns-clause-shorter
returns-clause-shorter c = parts_shorter part (parts_view c.args.parts.now) c.args.self.now c.loop.self c.loop.parts c.loop.invariant c.later_part.new.self c.later_part.new.parts (rw c.if-branch.false at c.in_ok-later_part.ensures)
