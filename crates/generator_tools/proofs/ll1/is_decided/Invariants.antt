use Rattle.std.proofs.Common.{◌≡◌, ℕ, ◌<◌, length}
use Rattle.cfgrammar.specs.Numbered.{core}
use Rattle.generator_tools.proofs.Entries.{HasOne}
use Rattle.generator_tools.proofs.ll1.is_decided.Given as goal

-- at each token before the next one, at most one production is used
abbrev pub invariant-loop-token : goal.invariant-loop-token
invariant-loop-token g l = record {
  end : l.token-iterator.end ≡ length l.grammar.tokens;
  decided : (t : ℕ) → t < l.token-iterator.start → HasOne (core l.grammar) (g.S.Storage.number l.rule.0) t;
}
