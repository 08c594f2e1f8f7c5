use Rattle.cfgsink.proofs.Prefixes.{whole_or_faults, then_or_faults}
use Rattle.cfglint_shell.proofs.answer.write_both.Goals as goal

pub returns : goal.returns
returns g c =
    let first = c.in_ok-write_whole.ensures in
    let more = c.write_whole-2.ensures in
    then_or_faults _ _ _ _ _ _ _ _ first.ok first.ok_faults
    (whole_or_faults c.write_whole-2.result _ _ _ _ _ more.ok more.ok_faults more.err more.err_faults)
