use Rattle.std.proofs.Common.{◌≡◌, map, string_bytes, take}
use Rattle.cfgjson.specs.Annotations.{annotations}
use Rattle.cfgjson.proofs.lines.annotation_lines.Given as goal

-- the lines of the first ones
abbrev pub invariant-loop-one : goal.invariant-loop-one
invariant-loop-one g l = string_bytes l.lines ≡ annotations l.name l.text (map g.E.Diagnosed.shown (take l.one-index l.all))
