use Rattle.std.proofs.Common.{ap, ◌∙◌}
use Rattle.cfgsets.specs.Inner.Links.{lists_of}
use Rattle.cfgsets.proofs.Linking.{lists_none}
use Rattle.cfgsets.proofs.dependents.Dependents.new.Goals as goal

pub returns : goal.returns
returns c = ap (λ heads. lists_of heads c.new.result.items) (c.in_ok-vec.ensures.items_if_clones_equal (λ y e. e)) ∙ lists_none c.args.rules c.new.result.items
