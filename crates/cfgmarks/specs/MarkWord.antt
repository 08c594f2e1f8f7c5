-- A merge behaviour as a number.
use Rattle.std.specs.Prelude.{ℕ, ◌+◌, Option, Some, None}
use Rattle.cfgmarks.specs.declared.markmap.behavior.MergeBehavior.{MergeBehavior}
use Rattle.cfgmarks.specs.declared.markmap.behavior.MergeBehavior.TheVariants.{Theirs, Ours, MutuallyExclusive}

-- a behaviour as a number
abbrev pub behavior_word : MergeBehavior → ℕ
behavior_word Theirs = 256
behavior_word Ours = 512
behavior_word MutuallyExclusive = 1024

-- a behaviour, with the fact that one is set, as a number
abbrev pub set_behavior_word : Option MergeBehavior → ℕ
set_behavior_word None = 0
set_behavior_word (Some b) = 4 + behavior_word b
