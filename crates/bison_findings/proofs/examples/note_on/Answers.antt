use Rattle.std.proofs.Common.{◌≡◌, ◌≢◌, ℕ, zero, suc, List, Some, refl, ap, subst}
use Rattle.cfgrammar.specs.Numbered.{Numbered, core}
use Rattle.lr_states.specs.Automaton.{Automaton}
use Rattle.lr_states.specs.Viable.{IsUsed}
use Rattle.lr_conflicts.specs.declared.Conflict.{Conflict}
use Rattle.lr_conflicts.specs.declared.clashes.Clash.{Clash}
use Rattle.lr_conflicts.specs.Examples.{IsExampleIn}
use Rattle.lr_conflicts.specs.declared.examples.Example.{Example}
use Rattle.bison_findings.specs.Conflicts.{IsNote}
use Rattle.bison_findings.specs.Shown.{example_text}
use Rattle.bison_findings.proofs.Sides.{side_within}
use Rattle.bison_findings.proofs.examples.note_on.Goals as goal

module _ (g : Numbered) (x : Automaton) (conflicts : List Conflict) (clash : Clash) where
  noted : (left : ℕ) → left ≢ 0 → (example : Example) → IsExampleIn g x conflicts clash (Some example) → (words : List ℕ) → words ≡ example_text g example
      → IsNote g x conflicts left clash (Some words)
  noted zero some example found words is = absurd (some refl)
  noted (suc left) some example (conflict, among, at, shows) words is = (conflict, among, at, example, shows, ap Some is)

pub example_text-requires-clause-reduced : goal.example_text-requires-clause-reduced
example_text-requires-clause-reduced c =
    let g = c.args.grammar.now in
    let x = c.args.conflicts.now in
    let found = subst (IsExampleIn g x.lookaheads.automaton x.conflicts c.args.clash) c.in-Some.is (c.in_ok-example.ensures c.requires.tables) in
    side_within g c.invariant_holds.ensures.whole.grammar (IsUsed (core g)) _ _ found.3.reduced.is

pub example_text-requires-clause-other : goal.example_text-requires-clause-other
example_text-requires-clause-other c =
    let g = c.args.grammar.now in
    let x = c.args.conflicts.now in
    let found = subst (IsExampleIn g x.lookaheads.automaton x.conflicts c.args.clash) c.in-Some.is (c.in_ok-example.ensures c.requires.tables) in
    side_within g c.invariant_holds.ensures.whole.grammar (IsUsed (core g)) _ _ found.3.other.is

pub returns-in_ok-example_text-in-Some : goal.returns-in_ok-example_text-in-Some
returns-in_ok-example_text-in-Some c =
    let g = c.args.grammar.now in
    let x = c.args.conflicts.now in
    let found = subst (IsExampleIn g x.lookaheads.automaton x.conflicts c.args.clash) c.in-Some.is (c.in_ok-example.ensures c.requires.tables) in
    noted g x.lookaheads.automaton x.conflicts c.args.clash c.args.left c.if-left-eq0.false c.in-Some.example found _ c.in_ok-example_text-in-Some.ensures

pub returns-in-None : goal.returns-in-None
returns-in-None c =
    let x = c.args.conflicts.now in
    let none = subst (IsExampleIn c.args.grammar.now x.lookaheads.automaton x.conflicts c.args.clash) c.in-None.is
    (c.in_ok-example.ensures c.requires.tables) in
    absurd (none c.requires.clash.0 c.requires.clash.1 c.requires.clash.2)
