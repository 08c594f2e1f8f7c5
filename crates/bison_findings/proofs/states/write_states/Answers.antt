use Rattle.bison_findings.specs.States.{state_text}
use Rattle.bison_findings.proofs.Ranges.{written_more}
use Rattle.bison_findings.proofs.states.write_states.Goals as goal

pub loop-state-preserved : goal.loop-state-preserved
loop-state-preserved c =
    written_more (state_text c.args.grammar.now c.args.conflicts.now) c.loop-state.state _ _ _ c.loop-state.invariant c.in_ok-write_state.ensures
