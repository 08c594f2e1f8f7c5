use Rattle.std.proofs.Common.{◌∙◌}
use Rattle.cfgtool.proofs.Written.{all_written, none_written, one_more_written}
use Rattle.cfgtool.proofs.token_sets.write_tokens.Goals as goal

pub loop-tidx-init : goal.loop-tidx-init
loop-tidx-init g c = none_written _ _ _ _ (c.into_iter-tidx-iterator.ensures.into_iter_gives ∙ c.iter_tidxs-tidx-items.ensures.value)

pub loop-tidx-preserved : goal.loop-tidx-preserved
loop-tidx-preserved g c = one_more_written _ _ _ _ _ c.loop-tidx.invariant c.next.new.self _ _ c.in-Some.ensures.steps c.in_ok-write_token.ensures

pub returns : goal.returns
returns g c = all_written _ _ _ _ _ c.loop-tidx.invariant c.in-None.ensures.steps.0
