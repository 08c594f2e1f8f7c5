use Rattle.std.proofs.Common.{map, take}
use Rattle.std.specs.List.{AllZip, filter_map}
use Rattle.std.specs.Option.{option_copied}
use Rattle.cfgkinds.proofs.kinds.judged.Given as goal

-- clones of the locations that are reported so far
abbrev pub invariant-loop-part : goal.invariant-loop-part
invariant-loop-part g l =
    AllZip g.T.Clone.is_clone (filter_map (λ part. part) (map option_copied (take l.part-index l.parts))) l.locations.items
