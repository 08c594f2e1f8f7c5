use Rattle.std.proofs.Common.{◌≡◌, List, Option, None, Some, Contains, ap, subst, sym, ◌∙◌}
use Rattle.std.proofs.lemmas.Result.{IfOk-weaker}
use Rattle.cfgrammar.specs.Numbered.{Numbered}
use Rattle.lr_conflicts.specs.Clashes.{IsIn}
use Rattle.lr_conflicts.specs.Conflicts.{ConflictTables}
use Rattle.lr_conflicts.specs.declared.Conflict.{Conflict}
use Rattle.lr_conflicts.specs.declared.clashes.Clash.{Clash}
use Rattle.lr_states.specs.Lookaheads.{LookaheadTables}
use Rattle.lr_states.specs.Automaton.{Automaton}
use Rattle.lr_conflicts.specs.declared.examples.Example.{Example}
use Rattle.lr_conflicts.specs.Examples.{AreOf, IsExampleIn}
use Rattle.lr_conflicts.specs.Inner.Clashing.{IsKnown, ShowsClash}
use Rattle.lr_conflicts.proofs.examples.example_of.Goals as goal

known : (g : Numbered) (x : ConflictTables) (conflict : Conflict) → AreOf g x → Contains x.conflicts conflict → IsKnown g x.lookaheads.automaton conflict
known g x conflict are among = record { levels = are.levels; states = are.states; gotos = are.gotos; is = are.conflicts.each conflict among }

shown : (g : Numbered) (x : Automaton) (conflicts : List Conflict) (conflict : Conflict) (clash : Clash) (found : Option Example) → Contains conflicts conflict
    → IsIn g x conflict clash → ShowsClash g x conflict clash found → IsExampleIn g x conflicts clash found
shown g x conflicts conflict clash None among has none = absurd none
shown g x conflicts conflict clash (Some example) among has is = (conflict, among, has, is)

pub returns-in-Some : goal.returns-in-Some
returns-in-Some c =
    let g = c.args.grammar.now in
    let x = c.args.conflicts.now in
    let conflict = c.in-Some.conflict.now in
    let same : c.states-states.result.now ≡ x.lookaheads.automaton = c.states-states.ensures ∙ ap (λ (l : LookaheadTables). l.automaton) c.lookaheads.ensures in
    let among : Contains x.conflicts conflict = subst (λ l. Contains l conflict) c.as_slice.ensures c.in-Some.ensures.0 in
    let has : IsIn g x.lookaheads.automaton conflict c.args.clash = subst (λ a. IsIn g a conflict c.args.clash) same c.in-Some.ensures.1 in
    IfOk-weaker c.example_in.result _ _
    (λ found to are. shown g x.lookaheads.automaton x.conflicts conflict c.args.clash found among has
    (subst (λ a. IsKnown g a conflict → IsIn g a conflict c.args.clash → ShowsClash g a conflict c.args.clash found) same to (known g x conflict are among) has))
    c.example_in.ensures

pub returns-in-None : goal.returns-in-None
returns-in-None c = λ are conflict among has.
    let g = c.args.grammar.now in
    let same : c.states-states.result.now ≡ c.args.conflicts.now.lookaheads.automaton =
    c.states-states.ensures ∙ ap (λ (l : LookaheadTables). l.automaton) c.lookaheads.ensures in
    c.in-None.ensures conflict (subst (λ l. Contains l conflict) (sym c.as_slice.ensures) among) (subst (λ a. IsIn g a conflict c.args.clash) (sym same) has)
