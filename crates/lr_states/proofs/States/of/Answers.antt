use Rattle.std.proofs.Common.{sym, subst}
use Rattle.cfgrammar.specs.Numbered.{core}
use Rattle.lr_states.specs.Automaton.{AreGotos, HaveTargets}
use Rattle.lr_states.specs.Inner.Kernels.{automaton_of}
use Rattle.lr_states.specs.Viable.{IsUsed}
use Rattle.lr_states.proofs.Targets.{all_ascending}
use Rattle.lr_states.proofs.States.of.Goals as goal

pub returns : goal.returns
returns c =
    let g = core c.args.grammar.now in
    let made = c.in_ok-visited.ensures in
    record {
      states = made.states;
      gotos = subst (λ r. AreGotos g (IsUsed g) (automaton_of r c.in_ok-visited.visited.items)) (sym c.rules_len.ensures) made.gotos;
      targets = subst (λ r. HaveTargets g (automaton_of r c.in_ok-visited.visited.items)) (sym c.rules_len.ensures) made.targets;
    }

pub invariant_of-result : goal.invariant_of-result
invariant_of-result c =
    let g = core c.args.grammar.now in
    all_ascending g g.rules c.in_ok-visited.visited.items c.in_ok-visited.ensures.targets
