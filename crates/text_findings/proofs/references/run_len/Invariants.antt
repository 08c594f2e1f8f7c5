use Rattle.std.proofs.Common.{◌≡◌, ◌+◌, drop}
use Rattle.std.specs.List.{prefix_len}
use Rattle.text_findings.specs.References.{holds}
use Rattle.text_findings.proofs.references.run_len.Given as goal

-- the count so far and what is left of the run make up the whole
abbrev pub invariant-loop-index : goal.invariant-loop-index
invariant-loop-index l = l.index + prefix_len (holds l.run) (drop l.index l.code) ≡ prefix_len (holds l.run) l.code
