use Rattle.std.proofs.Common.{◌<◌, ℕ, length, map, subst}
use Rattle.std.proofs.lemmas.List.Elements.{All-map}
use Rattle.cfgrammar.specs.Numbered.{core}
use Rattle.cfgrammar.specs.Openings.{ArePositionsOf}
use Rattle.cfgrammar.specs.PIdx.{PIdx}
use Rattle.cfgrammar.proofs.ListedPositions.{listed_positions}
use Rattle.lr_states.proofs.tables.productions_of.Goals as goal

pub returns : goal.returns
returns c =
    let g = c.args.grammar.now in
    let all = c.rule_to_prods.result.now in
    let positions = map (λ p. p.0) all in
    subst (λ r. ArePositionsOf (core g) r positions) c.to_storage.ensures
    (listed_positions g c.to_storage.result positions c.invariant_holds.ensures.listed_once c.rule_to_prods.ensures.value
    (All-map (λ p. p < length g.productions) (λ (p : PIdx ℕ). p.0) all c.rule_to_prods.ensures.within))
