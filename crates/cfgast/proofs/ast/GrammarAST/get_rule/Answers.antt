use Rattle.std.proofs.Common.{◌≡◌, Option, Some, None, option_map, bytes_eq, string_bytes, refl, sym, ap, ◌∙◌}
use Rattle.std.specs.Borrow.{Bor}
use Rattle.std.specs.Option.{option_copied}
use Rattle.lemmas.proofs.Lookups.{lookup-map}
use Rattle.cfgitems.specs.SyntaxView.{syntax_view, rule_view}
use Rattle.cfgast.specs.TreeView.{syntax}
use Rattle.cfgitems.specs.declared.rule.Rule.{Rule}
use Rattle.cfgast.proofs.ast.GrammarAST.get_rule.Goals as goal

after : (found : Option (Bor Rule)) → option_map (λ (rule : Bor Rule). rule_view rule.now) found ≡ option_map rule_view (option_copied found)
after None = refl
after (Some rule) = refl

pub returns : goal.returns
unfolding syntax syntax_view
returns c =
    after c.get.result ∙ ap (option_map rule_view) c.get.ensures.value
    ∙ sym (lookup-map (bytes_eq c.args.name.now) string_bytes rule_view c.args.self.now.syntax.rules.entries)
