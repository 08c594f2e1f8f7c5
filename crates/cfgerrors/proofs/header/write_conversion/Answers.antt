use Rattle.std.proofs.Common.{refl}
use Rattle.std.proofs.Output.{has_written_append, has_written_styled_append}
use Rattle.cfgerrors.proofs.header.write_conversion.Goals as goal

pub returns-clause-styled : goal.returns-clause-styled
returns-clause-styled g c = λ flush ok.
    let expected = c.in_ok-write_parts.ensures.styled flush refl in
    let cause = c.write_str.ensures.styled expected.flush ok in
    has_written_styled_append _ _ _ _ _ _ expected cause

pub returns-clause-plain : goal.returns-clause-plain
returns-clause-plain g c = λ plain ok.
    let expected = c.in_ok-write_parts.ensures.plain plain refl in
    let cause = c.write_str.ensures.writes expected.plain ok in
    has_written_append _ _ _ _ _ _ expected cause
