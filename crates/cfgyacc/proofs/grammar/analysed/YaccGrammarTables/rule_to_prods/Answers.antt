use Rattle.std.proofs.Common.{◌<◌, length}
use Rattle.std.proofs.lemmas.List.Elements.{All-map}
use Rattle.cfgnumbers.proofs.ListedPositions.{listed_positions}
use Rattle.cfgyacc.proofs.grammar.analysed.YaccGrammarTables.rule_to_prods.Goals as goal

pub returns : goal.returns
returns g c = listed_positions c.args.self.now _ _ c.invariant_holds.ensures.listed_once c.rule_to_prods.ensures.value
    (All-map (λ p. p < length c.args.self.now.productions) (λ p. g.S.Storage.number p.0) _ c.rule_to_prods.ensures.within)
