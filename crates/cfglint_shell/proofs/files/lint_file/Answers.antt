use Rattle.std.proofs.Common.{◌≡◌, ◌∙◌, ap, refl, subst}
use Rattle.std.proofs.lemmas.Result.{on_ok_weaker}
use Rattle.cfgprogram.specs.declared.source.Input.{Input}
use Rattle.cfgprogram.specs.declared.source.Input.TheVariants as input
use Rattle.cfglint_shell.specs.Files.{IsFileOutcome}
use Rattle.cfglint_shell.specs.Inner.{options_view}
use Rattle.cfglint_shell.specs.ReadFaults.{unreadable_file}
use Rattle.cfglint_shell.specs.Requests.{name_of}
use Rattle.cfglint_shell.specs.Tally.{FileOutcome, Unread, with_fault, with_file}
use Rattle.cfglint_shell.proofs.files.lint_file.Goals as goal

pub returns-in_ok-fault-in-Unreadable-clause-ok : goal.returns-in_ok-fault-in-Unreadable-clause-ok
returns-in_ok-fault-in-Unreadable-clause-ok g c =
    let options = options_view c.args.options.now in
    let name = name_of options c.args.file.now in
    let reason = g.S.SourceWithReasons.reason c.fetch.new.self in
    let fetched = subst (λ (answer : Input). g.S.Source.fetches c.args.source.now c.args.file.now answer c.fetch.new.self) c.in-Unreadable.is c.fetch.ensures in
    let is : c.in_ok-fault-in-Unreadable.fault ≡ unreadable_file reason = c.in_ok-fault-in-Unreadable.ensures ∙ ap unreadable_file c.reason.ensures in
    on_ok_weaker {Q = (answer : Input) × (outcome : FileOutcome) × g.S.Source.fetches c.args.source.now c.args.file.now answer c.fetch.new.self × IsFileOutcome g.L.Linter.reports options name answer reason outcome × (c.add_fault.new.self ≡ with_file c.args.options.now.lint name outcome c.args.tally.now)} c.add_fault.result
    (λ added. (
      input.Unreadable,
      Unread reason,
      fetched,
      refl,
      added ∙ (λ i. with_fault c.args.options.now.lint (c.name_of-name.ensures i) (is i) c.args.tally.now),
    )) c.add_fault.ensures
