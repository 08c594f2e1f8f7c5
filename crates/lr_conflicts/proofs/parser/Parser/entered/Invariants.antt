use Rattle.std.proofs.Common.{◌≡◌, ◌<◌, length}
use Rattle.search.proofs.Reaching.{Searching, left_to_do}
use Rattle.lr_conflicts.specs.Conflicts.{Goes}
use Rattle.lr_conflicts.proofs.parser.Parser.entered.Given as goal

abbrev pub invariant-loop-state : goal.invariant-loop-state
invariant-loop-state l =
    Searching (length l.self.lookaheads.now.automaton.states) (λ n. (n ≡ 0) × (0 < length l.self.lookaheads.now.automaton.states))
    (Goes l.self.grammar.now l.self.levels.now l.self.lookaheads.now.automaton) (λ _. Unit {0}) l.search

abbrev pub decreases-loop-state : goal.decreases-loop-state
decreases-loop-state l = left_to_do l.search
