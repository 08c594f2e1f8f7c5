use Rattle.std.proofs.Common.{◌≡◌, ◌++◌, string_bytes}
use Rattle.std.specs.List.{flat_map}
use Rattle.cfgrender.specs.Render.{under_prefix}
use Rattle.cfgrender.proofs.excerpt.push_under_prefix.Given as goal

-- what is under the characters so far
abbrev pub invariant-loop-c : goal.invariant-loop-c
invariant-loop-c l = string_bytes l.out ≡ string_bytes l.initial.out ++ flat_map under_prefix l.yielded
