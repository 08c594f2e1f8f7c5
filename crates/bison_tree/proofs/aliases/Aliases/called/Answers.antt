use Rattle.std.proofs.Common.{◌≡◌, Some, None, option_map, bytes_eq, string_bytes, sym, ap, ◌∙◌}
use Rattle.std.specs.Map.{lookup}
use Rattle.std.specs.Option.{option_map_or}
use Rattle.lemmas.proofs.Lookups.{lookup-map}
use Rattle.bison_tree.specs.Inner.Views.{aliases_view}
use Rattle.bison_tree.proofs.aliases.Aliases.called.Goals as goal

pub returns-in-Some : goal.returns-in-Some
returns-in-Some c =
    let name = c.args.name.now in
    let found : lookup (bytes_eq name) (aliases_view c.args.self.now) ≡ Some (string_bytes c.in-Some.token.now) =
    lookup-map (bytes_eq name) string_bytes string_bytes c.args.self.now.of_strings.entries ∙ ap (option_map string_bytes) (sym c.in-Some.ensures.value) in
    c.as_str.ensures.value ∙ sym (ap (λ found. option_map_or (λ token. token) found name) found)

pub returns-in-None : goal.returns-in-None
returns-in-None c =
    let name = c.args.name.now in
    let found : lookup (bytes_eq name) (aliases_view c.args.self.now) ≡ None =
    lookup-map (bytes_eq name) string_bytes string_bytes c.args.self.now.of_strings.entries ∙ ap (option_map string_bytes) (sym c.in-None.ensures.value) in
    sym (ap (λ found. option_map_or (λ token. token) found name) found)
