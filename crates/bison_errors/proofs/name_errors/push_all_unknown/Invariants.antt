use Rattle.std.proofs.Common.{◌≡◌, ◌++◌, [], map, drop}
use Rattle.std.specs.List.{flat_map}
use Rattle.std.specs.String.{string_bytes}
use Rattle.cfgitems.specs.SyntaxView.{production_view}
use Rattle.cfgast.specs.TreeView.{syntax}
use Rattle.bison_errors.specs.Errors.{symbols_of, unknown_after}
use Rattle.bison_errors.proofs.name_errors.push_all_unknown.Given as goal

-- the errors so far, and those of the rest
abbrev pub invariant-loop-production : goal.invariant-loop-production
invariant-loop-production l =
    l.errors.items ++ unknown_after (syntax l.ast) (map string_bytes l.known.keys) (flat_map (λ production. production.symbols) (map production_view (drop l.production-index l.production-items)))
    ≡ l.fn.errors.items ++ unknown_after (syntax l.ast) [] (symbols_of (syntax l.ast))
