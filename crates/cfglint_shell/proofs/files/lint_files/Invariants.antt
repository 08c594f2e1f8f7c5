-- The files so far are linted, and there are no more texts than files.
use Rattle.std.proofs.Common.{◌≤◌, map, take}
use Rattle.cfglint_shell.specs.Files.{Lints}
use Rattle.cfglint_shell.specs.Inner.{options_view}
use Rattle.cfglint_shell.specs.Tally.{no_files}
use Rattle.cfglint_shell.proofs.files.lint_files.Given as goal

abbrev pub invariant-loop-file : goal.invariant-loop-file
invariant-loop-file g l = record {
  linted : Lints g.L.Linter.reports (options_view l.options) g.S.Source.fetches g.S.SourceWithReasons.reason l.initial.source no_files (map (λ file. file.now) (take l.file-index l.files)) l.source l.tally;
  few : l.tally.texts ≤ l.file-index;
}
