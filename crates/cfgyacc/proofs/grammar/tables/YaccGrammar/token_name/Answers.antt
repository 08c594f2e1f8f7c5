use Rattle.std.proofs.Common.{Some, sym, ap, ◌∙◌}
use Rattle.cfgyacc.proofs.Tokens.{token_shown, end_shown}
use Rattle.cfgyacc.proofs.grammar.tables.YaccGrammar.token_name.Goals as goal

pub returns-in-Some-clause-value : goal.returns-in-Some-clause-value
returns-in-Some-clause-value g c =
    token_shown g.S.Storage.number c.self.inside.rules.entries c.self.inside.prods c.self.inside.tokens.entries c.self.inside.start_prod c.self.inside.implicit_rule c.self.inside.settings c.args.self.now c.self.view_is
    (λ token. token.name) c.from.result (g.S.Storage.number c.args.tidx.0) c.from.ensures (c.in-Some.name.now, c.in-Some.field-0-1.now) c.in-Some.ensures.entry
    ∙ ap (λ name. Some (Some name)) (sym c.as_str.ensures.value)

pub returns-in-None-clause-value : goal.returns-in-None-clause-value
returns-in-None-clause-value g c =
    end_shown g.S.Storage.number c.self.inside.rules.entries c.self.inside.prods c.self.inside.tokens.entries c.self.inside.start_prod c.self.inside.implicit_rule c.self.inside.settings c.args.self.now c.self.view_is
    (λ token. token.name) c.from.result (g.S.Storage.number c.args.tidx.0) c.from.ensures c.in-None.ensures.entry c.requires
