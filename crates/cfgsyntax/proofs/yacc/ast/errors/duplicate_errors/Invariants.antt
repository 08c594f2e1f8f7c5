use Rattle.std.proofs.Common.{◌≡◌, ◌++◌, map}
use Rattle.cfgast.specs.Duplicates.{duplicates}
use Rattle.cfgitems.specs.SyntaxView.{occurrence_view}
use Rattle.cfgast.specs.TreeView.{duplicate_view}
use Rattle.cfgsyntax.specs.Faults.{duplicate_error}
use Rattle.cfgsyntax.proofs.yacc.ast.errors.duplicate_errors.Given as goal

-- the errors so far, and those of the rest
abbrev pub invariant-loop-what : goal.invariant-loop-what
invariant-loop-what l =
    l.errors.items ++ map duplicate_error (map duplicate_view l.what-iterator)
    ≡ map duplicate_error (duplicates (map occurrence_view l.occurrences))
