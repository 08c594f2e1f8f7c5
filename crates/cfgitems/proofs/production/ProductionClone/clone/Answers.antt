use Rattle.std.proofs.Common.{arith, ◌≡◌, map}
use Rattle.std.proofs.lemmas.Grind.{common_steps}
use Rattle.lemmas.proofs.Copies.{map-copies}
use Rattle.cfgitems.specs.SyntaxView.{symbol_view}
use Rattle.cfgitems.proofs.production.ProductionClone.clone.Goals as goal

pub returns : goal.returns
returns c =
    let same : map symbol_view c.in_ok-clone.field-0.items ≡ map symbol_view c.args.self.now.symbols.items = map-copies _ symbol_view (λ x y h. h) _ _ c.in_ok-clone.ensures.cases.0 in
    grind (arith, common_steps, same)
