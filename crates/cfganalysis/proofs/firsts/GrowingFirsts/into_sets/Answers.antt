use Rattle.std.proofs.Common.{ap, ◌∙◌}
use Rattle.cfganalysis.proofs.firsts.GrowingFirsts.into_sets.Goals as goal

pub returns : goal.returns
returns g c = ap (λ t. record { firsts = t; nullable = c.self.inside.nullable }) c.in_ok-from_words.ensures ∙ c.self.view_is
