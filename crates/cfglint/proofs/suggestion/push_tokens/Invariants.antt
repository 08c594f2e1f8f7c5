use Rattle.std.proofs.Common.{◌≡◌, ◌++◌, map, string_bytes}
use Rattle.cfgrammar.specs.TreeView.{syntax}
use Rattle.cfglint.proofs.suggestion.push_tokens.Given as goal

-- the names so far, and those of the rest
abbrev pub invariant-loop-name : goal.invariant-loop-name
invariant-loop-name l =
    map (λ name. name.now) l.names.items ++ map string_bytes l.name-iterator
    ≡ map (λ name. name.now) l.fn.names.items ++ (syntax l.ast).tokens
