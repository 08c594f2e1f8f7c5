use Rattle.std.proofs.Common.{take}
use Rattle.cfgerrors.proofs.Lines.{AreWritten}
use Rattle.cfgerrors.proofs.parts.write_lines.Given as goal

abbrev pub invariant-loop-value : goal.invariant-loop-value
invariant-loop-value g l =
    AreWritten g.T.Display.output g.T.Display.styled_output g.W.Write.write_str_gives l.initial.f (take l.value-index l.others) l.f
