use Rattle.std.proofs.Common.{◌==◌, eq-eqb, sym, ◌∙◌}
use Rattle.std.proofs.lemmas.List.Folds.{list_any_at}
use Rattle.std.proofs.lemmas.Option.{slice_get_within, get_or_from_slice_get}
use Rattle.cfgitems.specs.SyntaxView.{syntax_built, syntax_view}
use Rattle.cfgitems.proofs.builder.AstBuilder.is_directive.Goals as goal

pub returns-in-Some : goal.returns-in-Some
unfolding syntax_built syntax_view
returns-in-Some c =
    let directives = c.args.self.now.syntax.token_directives.keys in
    let index = c.args.index in
    let other = c.in-Some.other.now in
    let at = sym c.in-Some.ensures.key in
    let is = get_or_from_slice_get directives index other other at ∙ c.if-other-index.true in
    sym (list_any_at (λ j. index == j) directives index other (slice_get_within directives index other at) (eq-eqb index _ (sym is)))
