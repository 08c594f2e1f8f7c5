use Rattle.std.specs.Fmt.{HasWritten, IsPlainFormatter}
use Rattle.std.specs.List.{flat_map}
use Rattle.std.specs.Str.{encode_utf8_all}
use Rattle.cfgrender.specs.Visible.{shown_as}
use Rattle.cfgrender.proofs.visible.write_visible.Given as goal

-- what shows the characters so far
abbrev pub invariant-loop-c : goal.invariant-loop-c
invariant-loop-c g l = IsPlainFormatter l.fn.f
    → HasWritten g.W.Write.write_str_gives l.fn.f (flat_map (λ c. encode_utf8_all (shown_as c)) l.yielded) l.f
