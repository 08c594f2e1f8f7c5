use Rattle.std.proofs.Common.{◌++◌, ap, ◌∙◌}
use Rattle.cfgcosts.proofs.minimal.products.join.Goals as goal

pub returns : goal.returns
returns g c = c.in_ok-extend_from_slice-2.ensures.items ∙ ap (λ l. l ++ c.args.suffix.now) (c.in_ok-extend_from_slice.ensures.items ∙ ap (λ l. l ++ c.args.prefix.now) c.in_ok-word.ensures.items)
