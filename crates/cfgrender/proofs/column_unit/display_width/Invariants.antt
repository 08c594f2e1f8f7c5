-- the column after the characters so far, and at most eight for each byte
use Rattle.std.proofs.Common.{◌≡◌, ◌+◌, ◌*◌, ◌≤◌, length}
use Rattle.cfgrender.specs.Render.{display_width}
use Rattle.cfgrender.proofs.column_unit.display_width.Given as goal

abbrev pub invariant-loop-c : goal.invariant-loop-c
invariant-loop-c l = record {
  value : l.width ≡ display_width l.yielded;
  small : l.width + 8 * length l.c-iterator.rest.now ≤ 8 * length l.line;
}
