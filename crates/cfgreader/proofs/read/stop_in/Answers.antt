use Rattle.std.proofs.Common.{sym, ap}
use Rattle.constructs.specs.Read.{stop_of}
use Rattle.cfgreader.proofs.read.stop_in.Goals as goal

pub returns-in-Ok : goal.returns-in-Ok
returns-in-Ok c = (c.in-Ok.ensures.2, sym (ap stop_of c.in-Ok.ensures.0))

pub returns-in-Err-Fault : goal.returns-in-Err-Fault
returns-in-Err-Fault c =
    let fails = rw c.in-Err-Fault.field-0-is at c.in-Err-Fault.ensures in
    (fails.1, sym (ap stop_of fails.0))
