use Rattle.std.proofs.Common.{◌≡◌, ◌+◌, ◌<◌, ◌≤◌, true, length, drop, get_or}
use Rattle.cfglines.specs.Characters.{begins_character}
use Rattle.cfgrender.specs.Render.{characters}
use Rattle.cfgrender.proofs.window.last_start.Given as goal

-- the characters so far, the last of which begins here unless more are counted
abbrev pub invariant-loop-start : goal.invariant-loop-start
invariant-loop-start l = (l.start ≤ length l.bytes) × (l.left + characters (drop l.start l.bytes) ≡ l.fn.count)
    × (l.left ≡ 0 → l.start < length l.bytes → begins_character (get_or l.bytes l.start 0) ≡ true)

abbrev pub decreases-loop-start : goal.decreases-loop-start
decreases-loop-start l = l.start
