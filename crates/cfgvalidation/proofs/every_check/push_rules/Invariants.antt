use Rattle.std.proofs.Common.{◌≡◌, ◌++◌, map}
use Rattle.std.specs.List.{flat_map}
use Rattle.cfgitems.specs.SyntaxView.{rule_entry}
use Rattle.cfgast.specs.TreeView.{syntax}
use Rattle.cfgvalidation.specs.EveryError.{rule_errors}
use Rattle.cfgvalidation.proofs.every_check.push_rules.Given as goal

-- the errors so far, and those of the rest
abbrev pub invariant-loop-rule : goal.invariant-loop-rule
invariant-loop-rule l =
    l.errors.items ++ flat_map (rule_errors (syntax l.ast)) (map rule_entry l.rule-iterator)
    ≡ l.fn.errors.items ++ flat_map (rule_errors (syntax l.ast)) (syntax l.ast).rules
