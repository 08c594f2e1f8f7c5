use Rattle.std.proofs.Common.{refl, ◌<◌, length, arith}
use Rattle.std.proofs.lemmas.Result.{err_from_is_err_and}
use Rattle.cfgwords.proofs.Blanks.{part_shorter}
use Rattle.cfgreader.proofs.Blanks.{blank_fails, blank_done, blank_on}
use Rattle.cfgreader.proofs.reader.Reader.blank.Goals as goal

pub returns-in_err-rest : goal.returns-in_err-rest
returns-in_err-rest c =
    let p = err_from_is_err_and c.from_residual.result c.from_residual.ensures.1 in
    rw (p.1, p.2) (blank_fails c.args.lines c.args.self.now c.loop-rest.self _ c.loop-rest.invariant c.in_err-rest.ensures)

pub loop-rest-init : goal.loop-rest-init
loop-rest-init c = record { len = refl; tree = refl; ends = refl }

pub invariant_of-self : goal.invariant_of-self
invariant_of-self c =
    let part = rw c.in-Some.is at c.in_ok-rest.ensures in
    let shorter : length c.in-Some.rest.now < length c.loop-rest.self.rest.now = part_shorter c.args.lines c.loop-rest.self.rest.now c.in-Some.rest.now part in
    record { within = omega (arith, shorter, c.loop-rest.self.within) }

pub loop-rest-smaller : goal.loop-rest-smaller
loop-rest-smaller c =
    let part = rw c.in-Some.is at c.in_ok-rest.ensures in
    part_shorter c.args.lines c.loop-rest.self.rest.now c.in-Some.rest.now part

pub loop-rest-preserved : goal.loop-rest-preserved
loop-rest-preserved c =
    let part = rw c.in-Some.is at c.in_ok-rest.ensures in
    record {
      len = c.loop-rest.invariant.len;
      tree = c.loop-rest.invariant.tree;
      ends = blank_on c.loop-rest.self.len c.args.lines c.args.self.now.rest.now c.loop-rest.self.rest.now c.in-Some.rest.now c.loop-rest.invariant.ends part;
    }

pub returns : goal.returns
returns c = blank_done c.args.lines c.args.self.now c.loop-rest.self c.loop-rest.invariant (rw c.in_default.is at c.in_ok-rest.ensures)
