use Rattle.std.proofs.Common.{ap, sym, subst, ◌∙◌}
use Rattle.cfgprogram.specs.declared.arguments.ArgumentsFault.{ArgumentsFault}
use Rattle.cfgsink.specs.Sinks.{AppendsOrFaults}
use Rattle.cfgsink.proofs.Prefixes.{whole_or_faults}
use Rattle.cfglint_shell.specs.Run.{ending_errors, ending_without}
use Rattle.cfglint_shell.proofs.runtime.refuse_arguments.Goals as goal

pub returns-in-NotUtf8-clause-line : goal.returns-in-NotUtf8-clause-line
returns-in-NotUtf8-clause-line g c =
    let line = c.as_bytes.ensures.value ∙ ap (λ (fault : ArgumentsFault). ending_errors (ending_without fault)) (sym c.in-NotUtf8.is) in
    let printed = c.write_whole.ensures in
    subst (AppendsOrFaults _ _ _ _) line (whole_or_faults c.write_whole.result _ _ _ _ _ printed.ok printed.ok_faults printed.err printed.err_faults)

pub returns-in-OutOfMemory-clause-line : goal.returns-in-OutOfMemory-clause-line
returns-in-OutOfMemory-clause-line g c =
    let line = ap (λ (fault : ArgumentsFault). ending_errors (ending_without fault)) (sym c.in-OutOfMemory.is) in
    let printed = c.write_whole-in-OutOfMemory.ensures in
    subst (AppendsOrFaults _ _ _ _) line (whole_or_faults c.write_whole-in-OutOfMemory.result _ _ _ _ _ printed.ok printed.ok_faults printed.err printed.err_faults)
