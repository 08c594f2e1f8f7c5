use Rattle.std.proofs.Common.{◌≡◌, ◌++◌, codes, take, string_bytes}
use Rattle.std.specs.List.{flat_map}
use Rattle.cfgrender.specs.Render.{reported}
use Rattle.cfgrender.proofs.source.Source.push_each.Given as goal

-- the spans so far
abbrev pub invariant-loop-span : goal.invariant-loop-span
invariant-loop-span l = string_bytes l.out
    ≡ string_bytes l.initial.out
    ++ flat_map (reported l.self.unit l.self.name.now l.self.text (codes "note: also here")) (take l.span-index l.spans)
