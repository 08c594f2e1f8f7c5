use Rattle.std.proofs.Common.{◌≡◌, true, sym, ap, subst, ◌∙◌}
use Rattle.cfgitems.specs.Building.{has_rule}
use Rattle.cfgitems.specs.SyntaxView.{named_view}
use Rattle.cfgast.specs.TreeView.{syntax}
use Rattle.cfgast.specs.Writing.{started_at}
use Rattle.cfgast.specs.Sound.{IsSound}
use Rattle.cfgsyntax.proofs.SoundLemmas.{IsSound-restarted}
use Rattle.cfgsyntax.proofs.yacc.ast.ASTWithValidityInfo.clone_and_change_start_rule.Goals as goal

pub invariant_of-result : goal.invariant_of-result
invariant_of-result c =
    let old = syntax c.self.inside.ast in
    let word = named_view c.args.rule.name in
    let there : has_rule word.name old.rules ≡ true =
    ap (λ name. has_rule name old.rules) (sym c.deref.ensures) ∙ sym c.has_rule.ensures ∙ c.if-not-has_rule.false in
    let errors : c.in_ok-errors.errors.items ≡ c.self.inside.errors.items = c.in_ok-errors.ensures.items_if_clones_equal (λ x y same. same) ∙ c.deref-2.ensures.value in
    subst (λ s. IsSound s c.in_ok-errors.errors.items) (sym c.in_ok-ast.ensures)
    (subst (IsSound (started_at old word)) (sym errors) (IsSound-restarted old c.self.inside.errors.items word c.self.invariant there))
