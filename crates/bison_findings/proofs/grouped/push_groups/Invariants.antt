use Rattle.std.proofs.Common.{◌≡◌, ◌++◌, List, Contains, length}
use Rattle.bison_findings.specs.Conflicts.{AreGrouped, most_examples}
use Rattle.bison_findings.specs.Inner.Within.{IsAmong}
use Rattle.lr_conflicts.specs.declared.clashes.Clash.{Clash}
use Rattle.text_findings.specs.Finding.{ShownFinding}
use Rattle.bison_findings.proofs.grouped.push_groups.Given as goal

-- findings about the rest complete those so far
abbrev pub invariant-loop-first : goal.invariant-loop-first
invariant-loop-first l = record {
  among : (clash : Clash) → Contains l.rest clash → IsAmong l.grammar l.conflicts clash;
  grouped : List ShownFinding;
  added : l.all.items ≡ l.initial.all.items ++ grouped;
  completed : (later : List ShownFinding) → AreGrouped l.grammar l.conflicts.lookaheads.automaton l.conflicts.conflicts l.left l.rest later
      → AreGrouped l.grammar l.conflicts.lookaheads.automaton l.conflicts.conflicts most_examples l.clashes (grouped ++ later);
}

abbrev pub decreases-loop-first : goal.decreases-loop-first
decreases-loop-first l = length l.rest
