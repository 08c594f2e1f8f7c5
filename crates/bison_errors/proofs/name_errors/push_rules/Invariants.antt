use Rattle.std.proofs.Common.{◌≡◌, ◌++◌, map, filter_map}
use Rattle.cfgitems.specs.SyntaxView.{rule_entry}
use Rattle.cfgast.specs.TreeView.{syntax}
use Rattle.bison_errors.specs.Errors.{rule_error}
use Rattle.bison_errors.proofs.name_errors.push_rules.Given as goal

-- the errors so far, and those of the rest
abbrev pub invariant-loop-name : goal.invariant-loop-name
invariant-loop-name l =
    l.errors.items ++ filter_map (rule_error (syntax l.ast)) (map rule_entry l.name-iterator)
    ≡ l.fn.errors.items ++ filter_map (rule_error (syntax l.ast)) (syntax l.ast).rules
