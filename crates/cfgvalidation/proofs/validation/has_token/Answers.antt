use Rattle.std.proofs.Common.{bytes_eq}
use Rattle.std.specs.Cmp.Lexicographic.{bytes_decides, nat_list_eq_equiv}
use Rattle.std.specs.List.{list_any}
use Rattle.std.proofs.lemmas.Bool.Decides.{same_from_decides}
use Rattle.std.proofs.lemmas.Map.Views.{Contains-from_any, list_any-from_Contains}
use Rattle.cfgast.specs.TreeView.{syntax}
use Rattle.cfgvalidation.proofs.validation.has_token.Goals as goal

pub returns : goal.returns
returns c =
    let name = c.args.name.now in
    let tokens = (syntax c.args.ast.now).tokens in
    same_from_decides c.has_token.result (list_any (bytes_eq name) tokens) c.has_token.ensures
    (Contains-from_any (λ x y. (bytes_decides x y).0) name tokens, list_any-from_Contains nat_list_eq_equiv name tokens)
