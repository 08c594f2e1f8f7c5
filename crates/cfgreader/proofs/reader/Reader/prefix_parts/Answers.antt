use Rattle.std.proofs.lemmas.Result.{err_from_is_err_and}
use Rattle.cfgreader.specs.Rules.{prefix_part, no_parts}
use Rattle.cfgreader.proofs.Parts.{parts_start, parts_on, parts_smaller, parts_done, parts_fail, parts_shorter}
use Rattle.cfgreader.proofs.reader.Reader.prefix_parts.Goals as goal

pub loop-init : goal.loop-init
loop-init c = parts_start prefix_part no_parts c.args.self.now _ c.clear.ensures

pub loop-smaller : goal.loop-smaller
loop-smaller c = parts_smaller prefix_part no_parts c.args.self.now c.loop.self c.loop.parts c.loop.invariant c.prefix_part.new.self c.prefix_part.new.parts (rw c.if-branch.true at c.in_ok-prefix_part.ensures)

pub loop-preserved : goal.loop-preserved
loop-preserved c = parts_on prefix_part no_parts c.args.self.now c.loop.self c.loop.parts c.loop.invariant c.prefix_part.new.self c.prefix_part.new.parts (rw c.if-branch.true at c.in_ok-prefix_part.ensures)

pub returns-in_err-prefix_part-clause-read : goal.returns-in_err-prefix_part-clause-read
returns-in_err-prefix_part-clause-read c =
    let p = err_from_is_err_and c.from_residual.result c.from_residual.ensures.1 in
    rw (p.1, p.2) (parts_fail prefix_part no_parts c.args.self.now c.loop.self c.loop.parts c.loop.invariant c.prefix_part.new.self _ c.in_err-prefix_part.ensures)

pub returns-clause-read : goal.returns-clause-read
returns-clause-read c = parts_done prefix_part no_parts c.args.self.now c.loop.self c.loop.parts c.loop.invariant c.prefix_part.new.self c.prefix_part.new.parts (rw c.if-branch.false at c.in_ok-prefix_part.ensures)

pub returns-clause-shorter : goal.returns-clause-shorter
returns-clause-shorter c = parts_shorter prefix_part no_parts c.args.self.now c.loop.self c.loop.parts c.loop.invariant c.prefix_part.new.self c.prefix_part.new.parts (rw c.if-branch.false at c.in_ok-prefix_part.ensures)
