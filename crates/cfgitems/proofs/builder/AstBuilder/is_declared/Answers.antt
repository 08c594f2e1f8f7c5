use Rattle.std.proofs.Common.{ℕ, false, ◌==◌, Option, bytes_eq, string_bytes, sym, ap, ◌∙◌}
use Rattle.std.specs.List.{list_any}
use Rattle.std.specs.Option.{option_map_or}
use Rattle.lemmas.proofs.Positions.{position-map}
use Rattle.cfgitems.specs.Building.{is_declared}
use Rattle.cfgitems.specs.SyntaxView.{syntax_view, syntax_built}
use Rattle.cfgitems.proofs.Found.{none_declared}
use Rattle.cfgitems.proofs.builder.AstBuilder.is_declared.Goals as goal

pub returns-then-is_empty : goal.returns-then-is_empty
unfolding syntax_built syntax_view
returns-then-is_empty c = none_declared (syntax_built c.args.self.now) c.args.name.now (c.is_empty.ensures.0 c.if-is_empty.true)

pub returns-in-Some : goal.returns-in-Some
unfolding syntax_built syntax_view is_declared
returns-in-Some c =
    c.is_directive.ensures ∙ ap (λ (o : Option ℕ). option_map_or (λ i. list_any (λ j. i == j) c.args.self.now.syntax.token_directives.keys) o false)
    (c.in-Some.ensures.index ∙ sym (position-map (bytes_eq c.args.name.now) string_bytes c.args.self.now.syntax.tokens.keys))

pub returns-in-None : goal.returns-in-None
unfolding syntax_built syntax_view is_declared
returns-in-None c =
    ap (λ (o : Option ℕ). option_map_or (λ i. list_any (λ j. i == j) c.args.self.now.syntax.token_directives.keys) o false)
    (c.in-None.ensures.index ∙ sym (position-map (bytes_eq c.args.name.now) string_bytes c.args.self.now.syntax.tokens.keys))
