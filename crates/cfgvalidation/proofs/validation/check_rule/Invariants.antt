use Rattle.std.proofs.Common.{◌≡◌, drop}
use Rattle.cfgast.specs.TreeView.{syntax}
use Rattle.cfgast.specs.Check.{first_error, locate_error}
use Rattle.cfgvalidation.proofs.validation.check_rule.Given as goal

abbrev pub invariant-loop-index : goal.invariant-loop-index
invariant-loop-index l =
    first_error (locate_error (syntax l.ast)) l.rule.pidxs.items
    ≡ first_error (locate_error (syntax l.ast)) (drop l.index-index l.rule.pidxs.items)
