use Rattle.std.proofs.Common.{◌≡◌, ◌+◌, ◌∙◌, ap, arith}
use Rattle.cfglines.specs.Lines.{StandsFor, line_number}
use Rattle.cfglines.proofs.Newlines.{length-newlines_of}
use Rattle.cfglines.proofs.newlinecache.NewlineCache.byte_to_line_num_and_col_num.Goals as goal

pub returns : goal.returns
unfolding line_number
returns c =
    let bytes = ap (λ kept. kept.bytes) c.self.view_is in
    let holds : StandsFor c.args.self.now c.args.src.now = c.requires (omega arith) in
    let line : c.newlines_before.result + 1 ≡ line_number c.args.src.now c.args.byte =
    ap (λ n. n + 1) (c.newlines_before.ensures.value _ holds ∙ length-newlines_of _) in
    let column = c.column_of.ensures in
    ((holds, c.is_char_boundary.ensures.test.0 c.if-not-is_char_boundary.false), cc)
