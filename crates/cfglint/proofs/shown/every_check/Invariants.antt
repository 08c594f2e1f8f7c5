use Rattle.std.proofs.Common.{◌≡◌, ◌++◌, drop, map}
use Rattle.std.specs.List.{filter_map}
use Rattle.cfgrammar.specs.SyntaxView.{production_view}
use Rattle.cfgrammar.specs.TreeView.{syntax}
use Rattle.cfglint.specs.ShownErrors.{every_check, precedence_error}
use Rattle.cfglint.proofs.shown.every_check.Given as goal

-- the errors so far, and those of the rest
abbrev pub invariant-loop-production : goal.invariant-loop-production
invariant-loop-production l =
    l.failed.items ++ filter_map (precedence_error (syntax l.ast)) (map production_view (drop l.production-index l.production-items))
    ≡ every_check (syntax l.ast)
