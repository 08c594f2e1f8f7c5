use Rattle.std.proofs.Common.{ℕ, List, Ok, Err, refl, subst, ◌∙◌}
use Rattle.cfgtool.specs.Endings.{Reported, ending_in}
use Rattle.cfgtool.specs.Report.{ReportsText}
use Rattle.cfgtool.specs.Run.{EndsReported}
use Rattle.cfgtool.proofs.Handled.{ended_so, ended_with, is_text, not_text, read_one}
use Rattle.cfgtool.proofs.program.command_outcome.Goals as goal

pub returns-in_err-text-clause-ends : goal.returns-in_err-text-clause-ends
returns-in_err-text-clause-ends g c =
    let named = c.in-Some-Some in
    let refused = c.in_err-text.ensures.err in
    let old = g.O.Sink.written c.args.out.now in
    let bytes = c.in_ok-bytes.bytes in
    let ending = ending_in c.from_residual-in_err-text.result in
    read_one g.S.Source.fetches named.kind named.command c.args.file.now c.args.source.now c.fetch.new.source old old ending c.args.kind.now c.args.command.now named.ensures named.ensures' bytes c.in_ok-bytes.ensures
    (not_text bytes c.deref.result.now c.deref.ensures.value ending c.args.file.now (EndsReported (ReportsText named.kind named.command bytes.items) old old ending) old refused.1
    (ended_so c.from_residual-in_err-text.result c.in_err-text.field-0.0 c.from_residual-in_err-text.ensures.1 ∙ refused.0))

pub returns-in_err-write_requested-clause-ends : goal.returns-in_err-write_requested-clause-ends
returns-in_err-write_requested-clause-ends g c =
    let named = c.in-Some-Some in
    let old = g.O.Sink.written c.args.out.now in
    let new = g.O.Sink.written c.write_requested.new.out in
    let bytes = c.in_ok-bytes.bytes in
    let ending = ending_in c.from_residual-in_err-write_requested.result in
    let fault = c.in_err-write_requested.field-0.0 in
    read_one g.S.Source.fetches named.kind named.command c.args.file.now c.args.source.now c.fetch.new.source old new ending c.args.kind.now c.args.command.now named.ensures named.ensures' bytes c.in_ok-bytes.ensures
    (is_text bytes c.deref.result.now c.deref.ensures.value ending c.args.file.now (EndsReported (ReportsText named.kind named.command bytes.items) old new ending) old new c.in_ok-text.ensures.ok.1
    (subst (λ (t : List ℕ). EndsReported (ReportsText named.kind named.command t) old new ending) (c.in_ok-text.ensures.ok.0 ∙ c.deref.ensures.value)
    (Err fault, ended_with c.from_residual-in_err-write_requested.result fault c.from_residual-in_err-write_requested.ensures.1, c.in_err-write_requested.ensures.reported)))

pub returns-clause-ends : goal.returns-clause-ends
returns-clause-ends g c =
    let named = c.in-Some-Some in
    let old = g.O.Sink.written c.args.out.now in
    let new = g.O.Sink.written c.write_requested.new.out in
    let bytes = c.in_ok-bytes.bytes in
    let ending = Reported c.in_ok-write_requested.field-0 in
    read_one g.S.Source.fetches named.kind named.command c.args.file.now c.args.source.now c.fetch.new.source old new ending c.args.kind.now c.args.command.now named.ensures named.ensures' bytes c.in_ok-bytes.ensures
    (is_text bytes c.deref.result.now c.deref.ensures.value ending c.args.file.now (EndsReported (ReportsText named.kind named.command bytes.items) old new ending) old new c.in_ok-text.ensures.ok.1
    (subst (λ (t : List ℕ). EndsReported (ReportsText named.kind named.command t) old new ending) (c.in_ok-text.ensures.ok.0 ∙ c.deref.ensures.value)
    (Ok c.in_ok-write_requested.field-0, refl, c.in_ok-write_requested.ensures.reported)))
