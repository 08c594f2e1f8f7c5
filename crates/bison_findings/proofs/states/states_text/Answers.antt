use Rattle.std.proofs.Common.{◌++◌, ap, ◌∙◌}
use Rattle.bison_findings.specs.States.{states_text}
use Rattle.bison_findings.proofs.Within.{tables_within}
use Rattle.bison_findings.proofs.states.states_text.Goals as goal

pub write_states-requires : goal.write_states-requires
write_states-requires c = tables_within c.args.grammar.now c.in_ok-conflicts.conflicts (record {
  levels = c.args.associativities.now;
  states = c.in_ok-conflicts.ensures.states;
  gotos = c.in_ok-conflicts.ensures.gotos;
  conflicts = c.in_ok-conflicts.ensures.conflicts;
}) c.in_ok-conflicts.ensures.targets

pub returns : goal.returns
returns c = record {
  x = c.in_ok-conflicts.conflicts;
  states = c.in_ok-conflicts.ensures.states;
  gotos = c.in_ok-conflicts.ensures.gotos;
  targets = c.in_ok-conflicts.ensures.targets;
  lookaheads = c.in_ok-conflicts.ensures.lookaheads;
  conflicts = c.in_ok-conflicts.ensures.conflicts;
  is = c.in_ok-write_states.ensures ∙ ap (λ t. t ++ states_text c.args.grammar.now c.in_ok-conflicts.conflicts) c.new-text.ensures.bytes;
}
