use Rattle.std.proofs.Common.{◌*◌, ◌/◌, arith}
use Rattle.cfglines.specs.Characters.{step}
use Rattle.cfglines.proofs.Counts.{begun-le, begun_up_to}
use Rattle.cfglines.proofs.positions.begun_before.Goals as goal

pub returns : goal.returns
returns c =
    let byte = c.args.byte in
    let text = c.args.text.now in
    let before = c.requires.counted.each (byte / step) (omega (arith, c.requires.counted.reach)) in
    omega (arith, c.begun_in.ensures, begun_up_to text (byte / step * step) byte (omega arith))

pub overflow_add-result : goal.overflow_add-result
overflow_add-result c = omega (arith, returns c, begun-le c.args.text.now c.args.byte)
