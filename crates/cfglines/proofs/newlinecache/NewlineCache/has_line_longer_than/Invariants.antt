use Rattle.std.proofs.Common.{◌≡◌, ℕ, ◌+◌, ◌<◌, ◌≤◌, get_or}
use Rattle.cfglines.proofs.LongLines.{begin_of}
use Rattle.cfglines.proofs.newlinecache.NewlineCache.has_line_longer_than.Given as goal

abbrev pub invariant-loop-newline : goal.invariant-loop-newline
invariant-loop-newline l =
    (l.start ≡ begin_of l.self.newlines l.newline-index)
    × ((i : ℕ) → i < l.newline-index → get_or l.self.newlines i 0 ≤ begin_of l.self.newlines i + l.bytes)
