use Rattle.std.proofs.Common.{◌<◌, length, arith, ◌∙◌}
use Rattle.cfgindex.proofs.SetBits.{bit_read, set_bits_from-on, set_bits_from-off}
use Rattle.cfgindex.proofs.vob.Vob.next_set_bit.Goals as goal

pub returns-then-unwrap_or : goal.returns-then-unwrap_or
returns-then-unwrap_or c =
    let within : c.loop-i.i < length c.args.self.now = omega (arith, c.loop-i-test.true, c.len-i-end.ensures) in
    let on = bit_read c.args.self.now c.loop-i.i _ _ within c.get.ensures c.unwrap_or.ensures ∙ c.if-unwrap_or.true in
    (within, c.loop-i.invariant ∙ set_bits_from-on _ _ within on)

pub loop-i-preserved : goal.loop-i-preserved
loop-i-preserved c =
    let within : c.loop-i.i < length c.args.self.now = omega (arith, c.loop-i-test.true, c.len-i-end.ensures) in
    let off = bit_read c.args.self.now c.loop-i.i _ _ within c.get.ensures c.unwrap_or.ensures ∙ c.if-unwrap_or.false in
    c.loop-i.invariant ∙ set_bits_from-off _ _ within off
