use Rattle.std.proofs.Common.{sym, subst, ◌∙◌}
use Rattle.cfgsets.specs.FirstSets.{AreSoundFirsts}
use Rattle.cfganalysis.proofs.Fitting.{openings_fit, still_few}
use Rattle.cfganalysis.proofs.FirstVisits.{are_firsts, say_none}
use Rattle.cfganalysis.proofs.firsts.grow_all.Goals as goal

pub visit_all-requires-clause-small : goal.visit_all-requires-clause-small
visit_all-requires-clause-small g c =
    openings_fit (g.P.Productions.content c.args.productions.now) c.to_usize-rules.result c.to_usize-tokens.result _
    (c.to_usize-rules.ensures.value ∙ c.rules_len.ensures.value) (c.to_usize-tokens.ensures.value ∙ c.tokens_len.ensures)
    c.to_usize-rules.ensures.range c.to_usize-tokens.ensures.range c.to_usize-rules.ensures.limit

pub visit_all-requires-clause-holds : goal.visit_all-requires-clause-holds
visit_all-requires-clause-holds g c =
    let grammar = g.P.Productions.content c.args.productions.now in
    subst (AreSoundFirsts grammar) (sym c.in_ok-firsts.ensures) (say_none grammar c.to_usize-rules.result c.to_usize-tokens.result
    (c.to_usize-rules.ensures.value ∙ c.rules_len.ensures.value) (c.to_usize-tokens.ensures.value ∙ c.tokens_len.ensures))

pub returns-clause-firsts : goal.returns-clause-firsts
returns-clause-firsts g c = are_firsts _ _ c.in_ok-visit_all.ensures.holds c.in_ok-visit_all.ensures.covered

pub returns-in_err-firsts-clause-few : goal.returns-in_err-firsts-clause-few
returns-in_err-firsts-clause-few g c = still_few _ _ _ _ c.requires.fresh c.requires.all_fresh
