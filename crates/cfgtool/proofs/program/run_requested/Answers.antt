use Rattle.std.proofs.Common.{inl, refl}
use Rattle.std.proofs.KnownBytes.{Appends-nil}
use Rattle.cfgtool.specs.Endings.{Reported}
use Rattle.cfgsink.specs.declared.outcome.Outcome.TheVariants.{Done, Refused}
use Rattle.cfgtool.proofs.program.run_requested.Goals as goal

pub returns-in-Ok-Done-clause-ends : goal.returns-in-Ok-Done-clause-ends
returns-in-Ok-Done-clause-ends g c =
    let done = rw c.in-Ok-Done.field-0-is at c.in-Ok-Done.ensures in
    (Reported Done, refl, done.ends, done.faults, inl (refl, Appends-nil _))

pub returns-in-Ok-Refused-clause-ends : goal.returns-in-Ok-Refused-clause-ends
returns-in-Ok-Refused-clause-ends g c =
    let refused = rw c.in-Ok-Refused.field-0-is at c.in-Ok-Refused.ensures in
    (Reported Refused, refl, refused.ends, refused.faults, inl (refl, Appends-nil _))
