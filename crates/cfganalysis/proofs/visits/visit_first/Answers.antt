use Rattle.std.proofs.Common.{arith, ◌∙◌}
use Rattle.cfgtables.proofs.Located.{at_position}
use Rattle.cfgsets.specs.Growth.{shown}
use Rattle.cfganalysis.proofs.Visiting.{all_below, noted_within, visited_first}
use Rattle.cfganalysis.proofs.visits.visit_first.Goals as goal

pub open-symbols-requires-clause-all_countable : goal.open-symbols-requires-clause-all_countable
open-symbols-requires-clause-all_countable g c =
    let w = c.requires.visited in
    all_below _ _ _ _ _ _ _ _ _ _ _ _ w _ c.requires.number (g.met.A.Analysis.bounded _ _ w.sound) c.requires.can.all_small

pub note-requires : goal.note-requires
note-requires g c = (
  g.P.Productions.content c.args.productions.now,
  c.requires.can.grammar,
  c.requires.visited.rules,
  at_position (g.P.Productions.content c.args.productions.now) (g.S.Storage.number c.to_storage.result) _
      (omega (arith, c.to_storage.ensures, c.requires.number)) c.rule_of-rule.ensures c.open-symbols.ensures.symbols,
)

pub add_production-requires-clause-grammar : goal.add_production-requires-clause-grammar
add_production-requires-clause-grammar g c =
    let w = c.requires.visited in (
      g.P.Productions.content c.args.productions.now,
      c.requires.can.grammar,
      w.sound,
      w.idle,
      w.gains,
      c.in_ok-note.ensures.shape ∙ w.rules,
      at_position (g.P.Productions.content c.args.productions.now) (g.S.Storage.number c.to_storage.result) _
          (omega (arith, c.to_storage.ensures, c.requires.number)) c.rule_of-rule.ensures c.open-symbols.ensures.symbols,
    )

pub add_production-requires-clause-within : goal.add_production-requires-clause-within
add_production-requires-clause-within g c = noted_within _ _ _ _ _ _ _ _ _ _ _ _ c.requires.visited _ _ c.requires.number c.in_ok-note.ensures

pub returns-clause-visited : goal.returns-clause-visited
returns-clause-visited g c =
    visited_first _ _ _ _ _ _ _ _ _ _ _ _ c.requires.visited _ _ _ (shown g.S.Storage.number c.rule_of-rule.result c.open-symbols.result.now) _ _ _ _ _ _ _ c.requires.can.grammar c.requires.number c.to_storage.ensures
    c.rule_of-rule.ensures c.open-symbols.ensures.symbols c.open-symbols.follows.holds-at-none c.in_ok-note.ensures c.add_production.ensures.takes
    c.add_production.ensures.dependents c.add_production.ensures.grown c.add_production.ensures.rules
