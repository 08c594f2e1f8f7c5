use Rattle.std.proofs.Common.{sym, ap, ◌∙◌, subst}
use Rattle.cfganalysis.specs.Follows.{AreFollows}
use Rattle.cfganalysis.proofs.Fitting.{openings_fit, still_few}
use Rattle.cfganalysis.proofs.FollowsFound.{are_follows, so_far_start}
use Rattle.cfganalysis.proofs.follows.grow_all.Goals as goal

pub visit_all-requires : goal.visit_all-requires
visit_all-requires g c =
    let rules = c.to_usize-rules.ensures.value ∙ c.rules_len.ensures.value in
    let tokens = c.to_usize-tokens.ensures.value ∙ c.tokens_len.ensures in record {
      grammar = c.rules_len.ensures.content;
      small = openings_fit (g.P.Productions.content c.args.productions.now) c.to_usize-rules.result c.to_usize-tokens.result _ rules tokens
          c.to_usize-rules.ensures.range c.to_usize-tokens.ensures.range c.to_usize-rules.ensures.limit;
      holds = so_far_start _ _ _ _ _ _ c.rules_len.ensures.content c.requires.firsts rules tokens c.rows.ensures c.in_ok-sets.ensures;
      fresh = c.requires.fresh;
      all_fresh = c.requires.all_fresh;
    }

pub returns : goal.returns
returns g c = record {
  follows = subst (λ x. AreFollows (g.P.Productions.content c.args.productions.now) x)
      (sym (c.into_table.ensures ∙ ap (λ x. x.follows) c.analysis.view_is))
      (are_follows _ _ c.in_ok-visit_all.ensures.holds c.in_ok-visit_all.ensures.covered);
  content = c.in_ok-visit_all.ensures.content;
  few = c.in_ok-visit_all.ensures.few;
}

pub returns-in_err-sets-clause-few : goal.returns-in_err-sets-clause-few
returns-in_err-sets-clause-few g c = still_few _ _ _ _ c.requires.fresh c.requires.all_fresh

pub returns-in_err-visit_all-clause-content : goal.returns-in_err-visit_all-clause-content
returns-in_err-visit_all-clause-content g c = c.in_err-visit_all.ensures.content

pub returns-in_err-visit_all-clause-few : goal.returns-in_err-visit_all-clause-few
returns-in_err-visit_all-clause-few g c = c.in_err-visit_all.ensures.few
