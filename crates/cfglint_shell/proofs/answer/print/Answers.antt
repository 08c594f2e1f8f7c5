use Rattle.std.proofs.Common.{refl, ap, sym, subst, add-zero, ◌++◌, ◌∙◌}
use Rattle.std.specs.Io.KnownBytes.{Appends}
use Rattle.cfgsink.specs.Sinks.{AppendsPrefix, AppendsOrFaults}
use Rattle.cfgsink.proofs.Prefixes.{whole_or_faults}
use Rattle.cfglint_shell.specs.Run.{Answer, Answered, Unwritten, unwritten_status}
use Rattle.cfglint_shell.proofs.answer.print.Goals as goal

pub returns-in-Ok-clause-ends : goal.returns-in-Ok-clause-ends
returns-in-Ok-clause-ends g c =
    let output = c.as_bytes.ensures.value ∙ ap (λ (answer : Answer). answer.output) c.answer.view_is in
    let errors = c.as_bytes-in-Ok.ensures.value ∙ ap (λ (answer : Answer). answer.errors) c.answer.view_is in
    let printed = c.write_whole-in-Ok.ensures in (
      Answered c.args.answer.now,
      ap (λ (answer : Answer). answer.status) c.answer.view_is,
      (refl, subst (Appends _ _) output c.in-Ok.ensures.ok),
      c.in-Ok.ensures.ok_faults ∙ sym (add-zero _),
      subst (AppendsOrFaults _ _ _ _) errors (whole_or_faults c.write_whole-in-Ok.result _ _ _ _ _ printed.ok printed.ok_faults printed.err printed.err_faults),
    )

pub returns-in-Err-clause-ends : goal.returns-in-Err-clause-ends
returns-in-Err-clause-ends g c =
    let reason = c.reason-reason.result in
    let status = c.unwritten_status.ensures ∙ ap (λ (answer : Answer). unwritten_status reason answer.status) c.answer.view_is in
    let output = c.as_bytes.ensures.value ∙ ap (λ (answer : Answer). answer.output) c.answer.view_is in
    let errors = c.as_bytes-in-Err.ensures.value ∙ ap (λ (answer : Answer). answer.errors) c.answer.view_is in
    let line = c.as_bytes-in-Err-2.ensures.value ∙ c.unwritten_line-line.ensures in
    let both = ap (λ first. first ++ c.as_bytes-in-Err-2.result.now) errors ∙ ap (λ last. c.args.answer.now.errors ++ last) line in (
      Unwritten reason c.args.answer.now,
      status,
      (c.reason-reason.ensures, refl, subst (AppendsPrefix _ _) output c.in-Err.ensures.err),
      c.in-Err.ensures.err_faults,
      subst (AppendsOrFaults _ _ _ _) both c.write_both.ensures,
    )
