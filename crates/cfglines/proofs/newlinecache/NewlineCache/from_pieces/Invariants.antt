use Rattle.std.proofs.Common.{◌<◌, ◌^◌, length}
use Rattle.cfglines.specs.Lines.{StandsFor, joined}
use Rattle.cfglines.proofs.newlinecache.NewlineCache.from_pieces.Given as goal

abbrev pub invariant-loop-piece : goal.invariant-loop-piece
invariant-loop-piece g l = StandsFor l.cache (joined l.yielded) × (length (joined l.yielded) < 2 ^ 64)
