use Rattle.std.proofs.Common.{◌≡◌, map, string_bytes, take}
use Rattle.cfgjson.specs.Sarif.{result_lines}
use Rattle.cfgjson.proofs.lines.result_lines.Given as goal

-- the lines of the first ones
abbrev pub invariant-loop-one : goal.invariant-loop-one
invariant-loop-one g l = string_bytes l.lines ≡ result_lines l.name l.text (map g.E.Diagnosed.shown (take l.one-index l.all))
