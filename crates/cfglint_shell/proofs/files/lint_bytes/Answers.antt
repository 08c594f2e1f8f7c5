use Rattle.std.proofs.Common.{◌≡◌, ◌∙◌, ap, refl, subst}
use Rattle.std.specs.Str.Lossy.{utf8_valid_len}
use Rattle.cfglint_shell.specs.Files.{IsPrinted}
use Rattle.cfglint_shell.specs.Inner.{options_view}
use Rattle.cfglint_shell.specs.Tally.{FileOutcome, Linted, NoText, with_fault, with_file}
use Rattle.cfglint_shell.specs.ReadFaults.{invalid_encoding}
use Rattle.std.proofs.lemmas.Result.{on_ok_weaker}
use Rattle.cfglint_shell.proofs.files.lint_bytes.Goals as goal

pub returns-in_ok-lint-in-Ok : goal.returns-in_ok-lint-in-Ok
returns-in_ok-lint-in-Ok g c =
    let printed : IsPrinted g.L.Linter.reports (options_view c.args.options.now) c.args.name.now c.args.bytes.now (Linted c.in_ok-lint-in-Ok.field-0) =
    (c.in-Ok.ensures.cases.1, subst (λ text. g.L.Linter.reports c.args.options.now.lint c.args.name.now text c.in_ok-lint-in-Ok.field-0) c.in-Ok.ensures.cases.0 c.in_ok-lint-in-Ok.ensures) in
    on_ok_weaker {Q = (outcome : FileOutcome) × IsPrinted g.L.Linter.reports (options_view c.args.options.now) c.args.name.now c.args.bytes.now outcome × (c.add_report-in-Ok.new.self ≡ with_file c.args.options.now.lint c.args.name.now outcome c.args.tally.now)} c.add_report-in-Ok.result
    (λ added. (Linted c.in_ok-lint-in-Ok.field-0, printed, added c.args.options.now.lint c.args.name.now)) c.add_report-in-Ok.ensures

pub returns-in_ok-fault-in-Err : goal.returns-in_ok-fault-in-Err
returns-in_ok-fault-in-Err g c =
    let options = options_view c.args.options.now in
    let bytes = c.args.bytes.now in
    let printed : IsPrinted g.L.Linter.reports options c.args.name.now bytes (NoText bytes) = (refl, c.in-Err.ensures.cases.0) in
    let is : c.in_ok-fault-in-Err.fault ≡ invalid_encoding bytes (utf8_valid_len bytes) =
    c.in_ok-fault-in-Err.ensures ∙ ap (invalid_encoding bytes) (c.valid_up_to.ensures ∙ c.in-Err.ensures.valid_len) in
    on_ok_weaker {Q = (outcome : FileOutcome) × IsPrinted g.L.Linter.reports options c.args.name.now bytes outcome × (c.add_fault.new.self ≡ with_file c.args.options.now.lint c.args.name.now outcome c.args.tally.now)} c.add_fault.result
    (λ added. (NoText bytes, printed, added ∙ ap (λ fault. with_fault c.args.options.now.lint c.args.name.now fault c.args.tally.now) is)) c.add_fault.ensures
