use Rattle.std.proofs.Common.{◌≡◌, ◌++◌, map}
use Rattle.std.specs.List.{filter_map}
use Rattle.cfgitems.specs.SyntaxView.{printed_entry}
use Rattle.cfgast.specs.Check.{printed_error}
use Rattle.cfgast.specs.TreeView.{syntax}
use Rattle.cfgvalidation.proofs.every_check.push_printed_forms.Given as goal

-- the errors so far, and those of the rest
abbrev pub invariant-loop-name : goal.invariant-loop-name
invariant-loop-name l =
    l.errors.items ++ filter_map (printed_error (syntax l.ast)) (map printed_entry l.name-iterator)
    ≡ l.fn.errors.items ++ filter_map (printed_error (syntax l.ast)) (syntax l.ast).tables.printed_forms
