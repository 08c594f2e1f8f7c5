use Rattle.cfgyacc.proofs.Tokens.{token_shown, end_shown}
use Rattle.cfgyacc.proofs.grammar.tables.YaccGrammar.token_span.Goals as goal

pub returns-in-Some : goal.returns-in-Some
returns-in-Some g c =
    token_shown g.S.Storage.number c.self.inside.rules.entries c.self.inside.prods c.self.inside.tokens.entries c.self.inside.start_prod c.self.inside.implicit_rule c.self.inside.settings c.args.self.now c.self.view_is
    (λ token. token.span) c.from.result (g.S.Storage.number c.args.tidx.0) c.from.ensures (c.in-Some.field-0-0.now, c.in-Some.row.now) c.in-Some.ensures.entry

pub returns-in-None : goal.returns-in-None
returns-in-None g c =
    end_shown g.S.Storage.number c.self.inside.rules.entries c.self.inside.prods c.self.inside.tokens.entries c.self.inside.start_prod c.self.inside.implicit_rule c.self.inside.settings c.args.self.now c.self.view_is
    (λ token. token.span) c.from.result (g.S.Storage.number c.args.tidx.0) c.from.ensures c.in-None.ensures.entry c.requires
