use Rattle.std.proofs.Common.{Option, Some, String, Global, string_bytes, sym, ap, ◌∙◌}
use Rattle.std.specs.Option.{option_map_or}
use Rattle.cfgyacc.proofs.Tokens.{token_shown, end_shown}
use Rattle.cfgyacc.proofs.grammar.tables.YaccGrammar.token_epp.Goals as goal

pub returns-in-Some-printed : goal.returns-in-Some-printed
returns-in-Some-printed g c =
    token_shown g.S.Storage.number c.self.inside.rules.entries c.self.inside.prods c.self.inside.tokens.entries c.self.inside.start_prod c.self.inside.implicit_rule c.self.inside.settings c.args.self.now c.self.view_is
    (λ token. token.printed) c.from.result (g.S.Storage.number c.args.tidx.0) c.from.ensures (c.in-Some.name.now, c.in-Some.row.now) c.in-Some.ensures.entry
    ∙ ap (λ (printed : Option (String Global)). Some (Some (option_map_or string_bytes printed (string_bytes c.in-Some.name.now)))) c.in-Some-printed.is
    ∙ ap (λ text. Some (Some text)) (sym c.as_str.ensures.value)

pub returns-in-None-printed : goal.returns-in-None-printed
returns-in-None-printed g c =
    token_shown g.S.Storage.number c.self.inside.rules.entries c.self.inside.prods c.self.inside.tokens.entries c.self.inside.start_prod c.self.inside.implicit_rule c.self.inside.settings c.args.self.now c.self.view_is
    (λ token. token.printed) c.from.result (g.S.Storage.number c.args.tidx.0) c.from.ensures (c.in-Some.name.now, c.in-Some.row.now) c.in-Some.ensures.entry
    ∙ ap (λ (printed : Option (String Global)). Some (Some (option_map_or string_bytes printed (string_bytes c.in-Some.name.now)))) c.in-None-printed.is
    ∙ ap (λ text. Some (Some text)) (sym c.as_str-in-None-printed.ensures.value)

pub returns-in-None : goal.returns-in-None
returns-in-None g c =
    end_shown g.S.Storage.number c.self.inside.rules.entries c.self.inside.prods c.self.inside.tokens.entries c.self.inside.start_prod c.self.inside.implicit_rule c.self.inside.settings c.args.self.now c.self.view_is
    (λ token. token.printed) c.from.result (g.S.Storage.number c.args.tidx.0) c.from.ensures c.in-None.ensures.entry c.requires
