use Rattle.std.proofs.Common.{position, ap, ◌∙◌}
use Rattle.std.proofs.lemmas.Result.{IfOk-weaker}
use Rattle.cfgnumbers.specs.Numbered.{Numbered}
use Rattle.cfgnumbers.specs.Accessors.{has_token_name}
use Rattle.cfgnumbers.specs.TablesView.{tables}
use Rattle.cfgnumbers.proofs.Lookups.{token_named}
use Rattle.cfgyacc.proofs.grammar.tables.YaccGrammar.tokens_map.Goals as goal

pub returns : goal.returns
unfolding tables
returns g c = IfOk-weaker c.tokens_by_name.result _ _
    (λ m found name. found name ∙ token_named name c.self.inside.tokens.entries ∙ ap (λ (g : Numbered). position (has_token_name name) g.tokens) c.self.view_is)
    c.tokens_by_name.ensures
