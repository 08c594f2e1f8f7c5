use Rattle.std.proofs.Common.{refl}
use Rattle.std.proofs.Output.{has_written_append, has_written_styled_append}
use Rattle.cfgerrors.proofs.header.write_unexpected.Goals as goal

pub returns-clause-styled : goal.returns-clause-styled
returns-clause-styled g c = λ flush ok.
    let located = c.in_ok-write_parts.ensures.styled flush refl in
    let hint = c.in_ok-write_str.ensures.styled located.flush refl in
    let after = c.write_str-2.ensures.styled hint.flush ok in
    has_written_styled_append _ _ _ _ _ _ located (has_written_styled_append _ _ _ _ _ _ hint after)

pub returns-clause-plain : goal.returns-clause-plain
returns-clause-plain g c = λ plain ok.
    let located = c.in_ok-write_parts.ensures.plain plain refl in
    let hint = c.in_ok-write_str.ensures.writes located.plain refl in
    let after = c.write_str-2.ensures.writes hint.plain ok in
    has_written_append _ _ _ _ _ _ located (has_written_append _ _ _ _ _ _ hint after)
