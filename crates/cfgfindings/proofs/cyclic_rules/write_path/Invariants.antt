use Rattle.std.proofs.Common.{◌≡◌, ◌++◌, take, string_bytes}
use Rattle.std.specs.List.{flat_map}
use Rattle.cfgfindings.specs.Shown.{step_text}
use Rattle.cfgfindings.proofs.cyclic_rules.write_path.Given as goal

-- the steps so far are written
abbrev pub invariant-loop-step : goal.invariant-loop-step
invariant-loop-step l = string_bytes l.text ≡ string_bytes l.initial.text ++ flat_map (step_text l.grammar) (take l.step-index l.path)
