use Rattle.std.proofs.Common.{◌≡◌, ◌<◌, ◌≤◌, ℕ, false, length}
use Rattle.cfgfindings.specs.Inner.Unproductive.{UnproductiveOrNot}
use Rattle.cfgfindings.proofs.sentences.Unproductive.is_empty.Given as goal

-- the indices that are left are those of rules, and the rules before them are productive
abbrev pub invariant-loop-rule : goal.invariant-loop-rule
invariant-loop-rule l = record {
  all : l.rule-iterator.end ≡ length l.self.rules;
  within : l.rule-iterator.start ≤ l.rule-iterator.end;
  productive : (r : ℕ) → r < l.rule-iterator.start → UnproductiveOrNot l.self r false;
}
