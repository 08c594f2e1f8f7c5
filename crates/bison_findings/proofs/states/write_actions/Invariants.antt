use Rattle.std.proofs.Common.{◌≡◌, ◌++◌, string_bytes, take}
use Rattle.std.specs.List.{flat_map}
use Rattle.bison_findings.specs.States.{action_line}
use Rattle.bison_findings.proofs.states.write_actions.Given as goal

-- what is done by the items so far is written
abbrev pub invariant-loop-item : goal.invariant-loop-item
invariant-loop-item l = string_bytes l.text ≡ string_bytes l.initial.text ++ flat_map (action_line l.grammar l.conflicts l.state) (take l.item-index l.items)
