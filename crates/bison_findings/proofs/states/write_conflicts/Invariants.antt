use Rattle.std.proofs.Common.{◌≡◌, ◌++◌, string_bytes, take}
use Rattle.std.specs.List.{flat_map}
use Rattle.bison_findings.specs.States.{conflict_line}
use Rattle.bison_findings.proofs.states.write_conflicts.Given as goal

-- those of the conflicts so far that are the state's are written
abbrev pub invariant-loop-conflict : goal.invariant-loop-conflict
invariant-loop-conflict l =
    string_bytes l.text ≡ string_bytes l.initial.text ++ flat_map (conflict_line l.grammar l.state) (take l.conflict-index l.conflict-items)
