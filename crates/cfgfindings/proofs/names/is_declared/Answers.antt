use Rattle.std.proofs.Common.{◌≡◌, ◌==◌, ℕ, Bool, true, false, List, Contains, MatchBool, sym, subst, ◌∙◌}
use Rattle.std.specs.Cmp.{unsigned_Decides}
use Rattle.std.specs.List.{list_any}
use Rattle.std.proofs.lemmas.Cmp.{nat_eq_equiv}
use Rattle.std.proofs.lemmas.Map.Views.{Contains-from_any, list_any-from_Contains}
use Rattle.cfgfindings.proofs.names.is_declared.Goals as goal

pub returns : goal.returns
returns c =
    let keys = c.token_directives.result.now.keys in
    let token = c.args.token in
    subst (λ (l : List ℕ). MatchBool c.contains.result (Contains l token) (Contains l token → ⊥)) c.token_directives.ensures
    (go keys token c.contains.result c.contains.ensures)
  where
    go : (keys : List ℕ) (token : ℕ) (b : Bool) → b ≡ list_any (λ key. token == key) keys → MatchBool b (Contains keys token) (Contains keys token → ⊥)
    go keys token true is = Contains-from_any (λ x y e. (unsigned_Decides x y).0 e) token keys (sym is)
    go keys token false is = λ has. let no : false ≡ true = is ∙ list_any-from_Contains nat_eq_equiv token keys has in cc
