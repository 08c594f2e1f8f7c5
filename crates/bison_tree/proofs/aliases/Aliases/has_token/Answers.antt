use Rattle.std.proofs.Common.{List, ℕ, bytes_eq, ap, ◌∙◌}
use Rattle.lemmas.proofs.Tests.{list_any-map}
use Rattle.cfgitems.specs.Building.{has_name}
use Rattle.bison_tree.specs.Inner.Views.{aliases_view}
use Rattle.bison_tree.proofs.aliases.Aliases.has_token.Goals as goal

pub returns : goal.returns
returns c = c.has_name.ensures ∙ ap (has_name c.args.token.now) c.requires
    ∙ list_any-map (bytes_eq c.args.token.now) (λ (alias : List ℕ × List ℕ). alias.1) (aliases_view c.args.self.now)
