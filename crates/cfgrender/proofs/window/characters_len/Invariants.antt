use Rattle.std.proofs.Common.{◌≡◌, ◌+◌, take}
use Rattle.cfgrender.specs.Render.{characters}
use Rattle.cfgrender.proofs.window.characters_len.Given as goal

-- the characters so far
abbrev pub invariant-loop-index : goal.invariant-loop-index
invariant-loop-index l = l.left + characters (take l.index l.bytes) ≡ l.fn.count
