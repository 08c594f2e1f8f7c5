use Rattle.std.proofs.Common.{◌≡◌, ◌++◌, drop}
use Rattle.std.specs.List.{flat_map}
use Rattle.cfgast.specs.TreeView.{syntax}
use Rattle.cfgvalidation.specs.EveryError.{located_errors}
use Rattle.cfgvalidation.proofs.every_check.push_rule.Given as goal

-- the errors so far, and those of the rest
abbrev pub invariant-loop-index : goal.invariant-loop-index
invariant-loop-index l =
    l.errors.items ++ flat_map (located_errors (syntax l.ast)) (drop l.index-index l.rule.pidxs.items)
    ≡ l.fn.errors.items ++ flat_map (located_errors (syntax l.ast)) l.rule.pidxs.items
