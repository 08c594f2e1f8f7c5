use Rattle.std.proofs.Common.{map, string_bytes, sym, ◌∙◌}
use Rattle.std.specs.Cmp.Lexicographic.{bytes_decides, nat_list_eq_equiv}
use Rattle.std.proofs.lemmas.Map.Views.{Contains-from_any, list_any-from_Contains}
use Rattle.cfgitems.specs.SyntaxView.{syntax_view}
use Rattle.cfgast.specs.TreeView.{syntax}
use Rattle.cfgitems.proofs.Views.{has_name-keys}
use Rattle.cfgast.proofs.ast.GrammarAST.has_token.Goals as goal

pub returns : goal.returns
unfolding syntax syntax_view
returns c =
    let name = c.args.name.now in
    let keys = c.args.self.now.syntax.tokens.keys in
    let same = has_name-keys name keys ∙ sym c.contains.ensures in (
      λ found. Contains-from_any (λ x y e. (bytes_decides x y).0 e) name (map string_bytes keys) (same ∙ found),
      λ there. sym same ∙ list_any-from_Contains nat_list_eq_equiv name (map string_bytes keys) there,
    )
