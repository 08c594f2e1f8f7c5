use Rattle.std.proofs.Common.{List, [], ℕ, get_or, arith}
use Rattle.std.specs.Borrow.{Bor}
use Rattle.std.proofs.lemmas.Result.{err_from_is_err_and}
use Rattle.cfglint_shell.specs.Files.{Lints}
use Rattle.cfglint_shell.specs.Inner.{options_view}
use Rattle.cfglint_shell.specs.Requests.{name_of}
use Rattle.cfglint_shell.proofs.FilesInTurn.{IsRequested-from_lints, requested_up_to, linted_up_to, texts-with_file}
use Rattle.cfglint_shell.proofs.files.lint_files.Goals as goal

abbrev no_file : Bor (List ℕ)
no_file = record { ref_ptr = (0, 0); now = [] }

pub loop-file-init : goal.loop-file-init
loop-file-init g c = rw c.new-tally.ensures (record { linted = Lints.none; few = omega arith })

pub loop-file-preserved : goal.loop-file-preserved
loop-file-preserved g c =
    let (answer, outcome, fetched, is, made) = c.in_ok-lint_file.ensures.ok in
    let files = c.args.files.now in
    rw made (record {
      linted = linted_up_to g.S.Source.fetches g.S.SourceWithReasons.reason g.L.Linter.reports (options_view c.args.options.now) files c.loop-file.file-index no_file c.loop-file-test.true
          _ _ _ _ _ answer outcome c.loop-file.invariant.linted fetched is;
      few = omega (arith, texts-with_file (options_view c.args.options.now).lint (name_of (options_view c.args.options.now) (get_or files c.loop-file.file-index no_file).now) outcome c.loop-file.tally, c.loop-file.invariant.few);
    })

pub returns-in_err-lint_file-clause-err : goal.returns-in_err-lint_file-clause-err
returns-in_err-lint_file-clause-err g c =
    let p = err_from_is_err_and c.from_residual.result c.from_residual.ensures.1 in
    let requested = IsRequested-from_lints g.S.Source.fetches g.S.SourceWithReasons.reason g.L.Linter.reports (options_view c.args.options.now) c.loop-file.invariant.linted in
    let (answer, fetched) = c.in_err-lint_file.ensures.err in
    rw (p.1) (requested_up_to g.S.Source.fetches c.args.files.now c.loop-file.file-index no_file c.loop-file-test.true _ _ _ answer requested fetched)
