use Rattle.std.proofs.Common.{◌≡◌, ℕ, ◌<◌, length}
use Rattle.cfgrammar.specs.Numbered.{core}
use Rattle.generator_tools.proofs.Entries.{HasOne}
use Rattle.generator_tools.proofs.ll1.is_ll1_by.Given as goal

-- for each rule before the next one, at most one production is used at a token
abbrev pub invariant-loop-rule : goal.invariant-loop-rule
invariant-loop-rule g l = record {
  end : l.rule-iterator.end ≡ length l.grammar.rules;
  decided : (r t : ℕ) → r < l.rule-iterator.start → t < length l.grammar.tokens → HasOne (core l.grammar) r t;
}
