-- What is written, and then the rest of the kinds, is all that is to be written.
use Rattle.std.proofs.Common.{◌≡◌, ◌++◌, drop, string_bytes, true}
use Rattle.cfglint_shell.specs.KindCounts.{kinds}
use Rattle.cfglint_shell.specs.Tally.{listed}
use Rattle.cfglint_shell.proofs.summary.write_listed.Given as goal

abbrev pub invariant-loop-kind : goal.invariant-loop-kind
invariant-loop-kind l =
    string_bytes l.text ++ listed l.is_first l.counts (drop l.kind-index kinds) ≡ string_bytes l.initial.text ++ listed true l.counts kinds
