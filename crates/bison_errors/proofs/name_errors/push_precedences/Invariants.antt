use Rattle.std.proofs.Common.{◌≡◌, ◌++◌, map, filter_map, drop}
use Rattle.cfgitems.specs.SyntaxView.{occurrence_view}
use Rattle.cfgast.specs.TreeView.{syntax}
use Rattle.bison_errors.specs.Errors.{precedence_error}
use Rattle.bison_errors.proofs.name_errors.push_precedences.Given as goal

-- the errors so far, and those of the rest
abbrev pub invariant-loop-occurrence : goal.invariant-loop-occurrence
invariant-loop-occurrence l =
    l.errors.items ++ filter_map (precedence_error (syntax l.ast)) (map occurrence_view (drop l.occurrence-index l.occurrence-items))
    ≡ l.fn.errors.items ++ filter_map (precedence_error (syntax l.ast)) (syntax l.ast).occurrences
