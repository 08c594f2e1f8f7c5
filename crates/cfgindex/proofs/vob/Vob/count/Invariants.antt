use Rattle.std.proofs.Common.{◌≡◌, count_by, take}
use Rattle.cfgindex.proofs.vob.Vob.count.Given as goal

abbrev pub invariant-loop-i : goal.invariant-loop-i
invariant-loop-i l = l.count ≡ count_by (λ b. b) (take l.i l.self)
