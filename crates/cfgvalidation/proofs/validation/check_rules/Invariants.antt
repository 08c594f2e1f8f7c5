use Rattle.std.proofs.Common.{◌≡◌, map}
use Rattle.cfgitems.specs.SyntaxView.{rule_entry}
use Rattle.cfgast.specs.TreeView.{syntax}
use Rattle.cfgast.specs.Check.{first_error, rule_error}
use Rattle.cfgvalidation.proofs.validation.check_rules.Given as goal

abbrev pub invariant-loop-rule : goal.invariant-loop-rule
invariant-loop-rule l =
    first_error (rule_error (syntax l.ast)) (syntax l.ast).rules
    ≡ first_error (rule_error (syntax l.ast)) (map rule_entry l.rule-iterator)
