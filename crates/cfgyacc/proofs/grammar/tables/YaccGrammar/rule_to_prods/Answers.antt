use Rattle.std.proofs.Common.{map, sym, ap, subst}
use Rattle.cfgindex.specs.declared.idxnewtype.PIdx.{PIdx}
use Rattle.cfgnumbers.specs.WellNumbered.{ListsEachOnce}
use Rattle.cfgyacc.proofs.Shows.{rule_shown}
use Rattle.cfgnumbers.proofs.Within.{refers, listed_within}
use Rattle.cfgyacc.proofs.grammar.tables.YaccGrammar.rule_to_prods.Goals as goal

pub returns-clause-value : goal.returns-clause-value
returns-clause-value g c =
    rule_shown g.S.Storage.number (λ rule. rule.productions) c.index.result.now (map (λ (p : PIdx g.row.S.Denot). g.S.Storage.number p.0) c.as_slice.result.now)
    (λ key. ap (map (λ (p : PIdx g.row.S.Denot). g.S.Storage.number p.0)) (sym c.as_slice.ensures.value))
    c.self.inside.rules.entries c.self.inside.prods c.self.inside.tokens.entries c.self.inside.start_prod c.self.inside.implicit_rule c.self.inside.settings c.args.self.now c.self.view_is
    c.from.result (g.S.Storage.number c.args.ridx.0) c.from.ensures c.index.ensures

pub returns-clause-within : goal.returns-clause-within
returns-clause-within g c =
    listed_within (λ (p : PIdx g.row.S.Denot). g.S.Storage.number p.0) c.args.self.now c.as_slice.result.now
    ((refers g.S.Storage.MAX _ c.args.self.now c.self.invariant c.self.view_is).listed (g.S.Storage.number c.args.ridx.0) _ (returns-clause-value g c))

pub returns-clause-own : goal.returns-clause-own
returns-clause-own g c = λ p owner owned.
    subst ListsEachOnce c.self.view_is c.self.invariant.listed_once p owner (g.S.Storage.number c.args.ridx.0) _ owned (returns-clause-value g c)
