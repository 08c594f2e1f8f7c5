use Rattle.std.proofs.Common.{map, string_bytes, take}
use Rattle.cfgjson.specs.Objects.{AreJsonLines, diagnostic_object}
use Rattle.cfgjson.proofs.lines.json_lines.Given as goal

abbrev pub invariant-loop-one : goal.invariant-loop-one
invariant-loop-one g l =
    AreJsonLines (map (λ one. diagnostic_object l.name l.text (g.E.Diagnosed.shown one)) (take l.one-index l.all)) (string_bytes l.lines)
