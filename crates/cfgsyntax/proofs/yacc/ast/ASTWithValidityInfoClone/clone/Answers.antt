use Rattle.std.proofs.Common.{◌≡◌, sym, subst, ◌∙◌}
use Rattle.std.proofs.lemmas.List.Elements.{same_from_all_zip}
use Rattle.cfgast.specs.TreeView.{syntax}
use Rattle.cfgast.specs.Sound.{IsSound}
use Rattle.cfgsyntax.proofs.yacc.ast.ASTWithValidityInfoClone.clone.Goals as goal

pub invariant_of-result : goal.invariant_of-result
invariant_of-result c =
    let errors : c.in_ok-errors.errors.items ≡ c.self.inside.errors.items = same_from_all_zip _ _ _ c.in_ok-errors.ensures.cases.0 (λ x y same. same) in
    subst (λ s. IsSound s c.in_ok-errors.errors.items) (sym c.in_ok-ast.ensures.cases)
    (subst (IsSound (syntax c.self.inside.ast)) (sym errors) c.self.invariant)

pub returns : goal.returns
returns c =
    let errors : c.in_ok-errors.errors.items ≡ c.self.inside.errors.items = same_from_all_zip _ _ _ c.in_ok-errors.ensures.cases.0 (λ x y same. same) in
    let ast : syntax c.in_ok-ast.ast ≡ syntax c.self.inside.ast = c.in_ok-ast.ensures.cases in
    record { cases = (λ i. record { kind = c.self.inside.kind; syntax = ast i; errors = errors i }) ∙ c.self.view_is }
