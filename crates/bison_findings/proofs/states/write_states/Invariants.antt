use Rattle.std.proofs.Common.{◌≡◌, ◌++◌, string_bytes}
use Rattle.std.specs.List.{flat_map, range_with_len}
use Rattle.bison_findings.specs.States.{state_text}
use Rattle.bison_findings.proofs.states.write_states.Given as goal

-- the states so far are written
abbrev pub invariant-loop-state : goal.invariant-loop-state
invariant-loop-state l = string_bytes l.text ≡ string_bytes l.initial.text ++ flat_map (state_text l.grammar l.conflicts) (range_with_len 0 l.state)
