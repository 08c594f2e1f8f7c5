use Rattle.std.proofs.Common.{◌≡◌, ◌++◌, codes, map, string_bytes, take}
use Rattle.std.specs.List.{flat_map}
use Rattle.cfglint_shell.proofs.usage.push_rest.Given as goal

-- the names so far
abbrev pub invariant-loop-name : goal.invariant-loop-name
invariant-loop-name l = string_bytes l.text
    ≡ string_bytes l.initial.text ++ flat_map (λ name. codes ", " ++ name) (map (λ name. name.now) (take l.name-index l.names))
