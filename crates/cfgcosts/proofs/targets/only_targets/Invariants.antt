use Rattle.std.proofs.Common.{◌≡◌, ◌<◌, ℕ, All, length, get_or}
use Rattle.cfgcosts.specs.Inner.Targets.{LeadsOnlyTo, rules_of}
use Rattle.cfgchoices.specs.Chains.{Along}
use Rattle.cfgcosts.proofs.targets.only_targets.Given as goal

abbrev pub invariant-loop-number : goal.invariant-loop-number
invariant-loop-number g l = record {
  len : length (rules_of g.S.Storage.number l.targets.items) ≡ l.number;
  within : All (λ h. h < (g.T.Tables.grammar l.tables).rules) (rules_of g.S.Storage.number l.targets.items);
  each : (r : ℕ) → r < l.number → Along (LeadsOnlyTo g.S.Storage.number (g.T.Tables.grammar l.tables) l.kinds) r (get_or (rules_of g.S.Storage.number l.targets.items) r 0);
}
