use Rattle.std.proofs.Common.{refl}
use Rattle.cfgyacc.proofs.Shows.{rule_shown}
use Rattle.cfgyacc.proofs.grammar.tables.YaccGrammar.rule_name_span.Goals as goal

pub returns : goal.returns
returns g c =
    rule_shown g.S.Storage.number (λ rule. rule.span) c.index.result.now c.index.result.now.span (λ key. refl)
    c.self.inside.rules.entries c.self.inside.prods c.self.inside.tokens.entries c.self.inside.start_prod c.self.inside.implicit_rule c.self.inside.settings c.args.self.now c.self.view_is
    c.from.result (g.S.Storage.number c.args.ridx.0) c.from.ensures c.index.ensures
