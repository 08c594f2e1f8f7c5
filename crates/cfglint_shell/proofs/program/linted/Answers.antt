use Rattle.std.proofs.Common.{subst, map, List, ℕ}
use Rattle.std.specs.Borrow.{Bor}
use Rattle.cfglint_shell.specs.Files.{AsksFirst}
use Rattle.cfglint_shell.specs.Inner.{options_view}
use Rattle.cfglint_shell.proofs.FilesInTurn.{IsRequested-from_lints, all_requested, on_err}
use Rattle.cfglint_shell.proofs.program.linted.Goals as goal

pub returns-clause-err : goal.returns-clause-err
returns-clause-err g c =
    let requested = IsRequested-from_lints g.S.Source.fetches g.S.SourceWithReasons.reason g.L.Linter.reports (options_view c.args.options.now) c.in_ok-tally.ensures.ok in
    on_err c.of_files.result
    (subst (λ (files : List (Bor (List ℕ))). AsksFirst g.S.Source.fetches c.args.source.now c.lint_files.new.source (map (λ file. file.now) files)) c.deref.ensures.value
    (all_requested g.S.Source.fetches _ _ _ requested))
