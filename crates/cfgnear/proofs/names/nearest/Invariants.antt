use Rattle.std.proofs.Common.{◌+◌, map, not, option_map, take}
use Rattle.std.specs.Str.{bytes_eq}
use Rattle.cfgnear.specs.Nearest.{distance, most_edits}
use Rattle.cfgnear.proofs.FirstNearest.{IsFound}
use Rattle.cfgnear.proofs.names.nearest.Given as goal

-- the first of the nearest so far, and the bound for the next
abbrev pub invariant-loop-other : goal.invariant-loop-other
invariant-loop-other l =
    IsFound (λ other. not (bytes_eq l.name other)) (distance l.name) (most_edits l.name + 1) (map (λ other. other.now) (take l.other-index l.names))
    (option_map (λ other. other.now) l.found) l.bound
