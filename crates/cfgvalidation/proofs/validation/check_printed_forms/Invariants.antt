use Rattle.std.proofs.Common.{◌≡◌, map}
use Rattle.cfgitems.specs.SyntaxView.{printed_entry}
use Rattle.cfgast.specs.TreeView.{syntax}
use Rattle.cfgast.specs.Check.{first_error, printed_error}
use Rattle.cfgvalidation.proofs.validation.check_printed_forms.Given as goal

abbrev pub invariant-loop-name : goal.invariant-loop-name
invariant-loop-name l =
    first_error (printed_error (syntax l.ast)) (syntax l.ast).tables.printed_forms
    ≡ first_error (printed_error (syntax l.ast)) (map printed_entry l.name-iterator)
