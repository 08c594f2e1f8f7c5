use Rattle.std.proofs.Common.{◌+◌, ◌∙◌, ap, arith}
use Rattle.cfglines.specs.Lines.{line_number}
use Rattle.cfglines.proofs.Newlines.{length-newlines_of}
use Rattle.cfglines.proofs.newlinecache.NewlineCache.byte_to_line_num.Goals as goal

pub returns : goal.returns
unfolding line_number
returns c text holds =
    let bytes = ap (λ kept. kept.bytes) c.self.view_is in
    let len = holds.bytes in
    (omega arith, ap (λ n. n + 1) (c.newlines_before.ensures.value text holds ∙ length-newlines_of _))
