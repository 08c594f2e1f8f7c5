use Rattle.std.proofs.Common.{◌≡◌, ◌++◌, string_bytes, take}
use Rattle.std.specs.List.{flat_map}
use Rattle.bison_findings.specs.States.{target_line}
use Rattle.bison_findings.proofs.states.write_targets.Given as goal

-- the targets so far are written
abbrev pub invariant-loop-target : goal.invariant-loop-target
invariant-loop-target l = string_bytes l.text ≡ string_bytes l.initial.text ++ flat_map (target_line l.grammar) (take l.target-index l.targets)
