use Rattle.std.proofs.Common.{◌≡◌}
use Rattle.cfgindex.specs.Inner.SetBits.{set_bits_from}
use Rattle.cfgindex.proofs.vob.Vob.next_set_bit.Given as goal

abbrev pub invariant-loop-i : goal.invariant-loop-i
invariant-loop-i l = set_bits_from l.self l.from ≡ set_bits_from l.self l.i
