use Rattle.std.proofs.Common.{refl}
use Rattle.std.proofs.Output.{has_written_append, has_written_styled_append}
use Rattle.cfgerrors.proofs.parts.write_parts.Goals as goal

pub returns-clause-styled : goal.returns-clause-styled
returns-clause-styled g c = λ flush ok.
    let before = c.in_ok-write_str.ensures.styled flush refl in
    let name = c.in_ok-write_str-2.ensures.styled before.flush refl in
    let after = c.write_str-3.ensures.styled name.flush ok in
    has_written_styled_append _ _ _ _ _ _ before (has_written_styled_append _ _ _ _ _ _ name after)

pub returns-clause-plain : goal.returns-clause-plain
returns-clause-plain g c = λ plain ok.
    let before = c.in_ok-write_str.ensures.writes plain refl in
    let name = c.in_ok-write_str-2.ensures.writes before.plain refl in
    let after = c.write_str-3.ensures.writes name.plain ok in
    has_written_append _ _ _ _ _ _ before (has_written_append _ _ _ _ _ _ name after)
