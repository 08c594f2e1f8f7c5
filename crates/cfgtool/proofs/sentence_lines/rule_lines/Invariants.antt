use Rattle.std.proofs.Common.{◌≡◌, ◌≤◌, length, string_bytes}
use Rattle.cfgrammar.specs.Generator.{token_cost}
use Rattle.cfgtool.specs.SentenceLines.{ReportsEach, ReportsRule}
use Rattle.cfgtool.proofs.sentence_lines.rule_lines.Given as goal

-- the indices that are left are those of rules, and the lines of those before them are written
abbrev pub invariant-loop-ridx : goal.invariant-loop-ridx
invariant-loop-ridx l = record {
  all : l.ridx-iterator.end ≡ length l.grammar.rules;
  within : l.ridx-iterator.start ≤ l.ridx-iterator.end;
  reported : ReportsEach (ReportsRule l.grammar (token_cost l.generator)) l.ridx-iterator.start (string_bytes l.lines);
}
