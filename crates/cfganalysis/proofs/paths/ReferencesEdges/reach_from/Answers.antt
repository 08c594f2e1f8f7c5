use Rattle.std.proofs.Common.{◌<◌, arith, map, sym, subst}
use Rattle.std.proofs.lemmas.Result.{IfOk-weaker}
use Rattle.cfgtables.specs.Openings.{ArePositionsOf}
use Rattle.cfganalysis.proofs.References.{referred_by_rule}
use Rattle.cfganalysis.proofs.paths.ReferencesEdges.reach_from.Goals as goal

pub to_storage-requires : goal.to_storage-requires
to_storage-requires g c = omega (arith, c.requires.node, c.to_usize-rules.ensures.range, c.to_usize-rules.ensures.value, c.rules_len.ensures.value)

pub rule_to_prods-productions-requires : goal.rule_to_prods-productions-requires
rule_to_prods-productions-requires g c = subst (λ n. n < (g.T.Tables.grammar c.args.self.now.tables.now).rules) (sym c.to_storage.ensures) c.requires.node

pub reach_referred-requires-clause-productions : goal.reach_referred-requires-clause-productions
reach_referred-requires-clause-productions g c = c.rule_to_prods-productions.ensures.within

pub returns : goal.returns
returns g c =
    let grammar = g.T.Tables.grammar c.args.self.now.tables.now in
    let positions = map (λ p. g.S.Storage.number p.0) c.rule_to_prods-productions.result.now in
    let are = subst (λ rule. ArePositionsOf grammar rule positions) c.to_storage.ensures c.rule_to_prods-productions.ensures in
    IfOk-weaker c.reach_referred.result _ _ (λ _ w. referred_by_rule grammar c.args.node positions are _ _ w) c.reach_referred.ensures
