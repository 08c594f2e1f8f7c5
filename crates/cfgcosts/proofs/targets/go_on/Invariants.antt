use Rattle.std.proofs.Common.{◌≡◌, List, length}
use Rattle.derivation.specs.Grammar.{Grammar}
use Rattle.cfgcosts.specs.Inner.Targets.{AreTargets, rules_of}
use Rattle.cfgchoices.specs.declared.kinds.Kind.{Kind}
use Rattle.cfgcosts.proofs.targets.go_on.Given as goal

abbrev pub invariant-loop-number : goal.invariant-loop-number
invariant-loop-number g l = record {
  len : length l.targets.items ≡ length l.fn.targets.items;
  still : (grammar : Grammar) (kinds : List (Kind _)) → AreTargets g.S.Storage.number grammar kinds (rules_of g.S.Storage.number l.fn.targets.items)
      → AreTargets g.S.Storage.number grammar kinds (rules_of g.S.Storage.number l.targets.items);
}
