use Rattle.std.proofs.Common.{◌≡◌, List, [], ◌++◌, None, Some, option_map, slice_get, append-nil, refl, sym, ap, subst, ◌∙◌}
use Rattle.std.specs.Option.{option_map_or}
use Rattle.std.specs.Prelude.{OnOk}
use Rattle.std.proofs.lemmas.Option.{slice_get-map, slice_get_past, slice_get_read}
use Rattle.cfgitems.specs.SyntaxView.{production_view}
use Rattle.cfgitems.specs.Syntax.{Production}
use Rattle.cfgerrors.specs.Errors.{GrammarError}
use Rattle.cfgast.specs.TreeView.{syntax}
use Rattle.cfgvalidation.specs.EveryError.{located_errors, production_errors}
use Rattle.cfgvalidation.proofs.every_check.push_index.Goals as goal

pub returns-in-None : goal.returns-in-None
returns-in-None c =
    let s = syntax c.args.ast.now in
    let none : slice_get s.productions c.args.index ≡ None =
    ap (λ (productions : List Production). slice_get productions c.args.index) (sym c.prods.ensures)
    ∙ slice_get-map production_view c.prods.result.now c.args.index
    ∙ ap (option_map production_view) (slice_get_past c.prods.result.now c.args.index c.in-None.ensures.lookup.3) in
    let errors : located_errors s c.args.index ≡ [] = ap (λ found. option_map_or (production_errors s) found []) none in
    sym (append-nil c.args.errors.now.items) ∙ ap (λ more. c.args.errors.now.items ++ more) (sym errors)

pub returns-in-Some : goal.returns-in-Some
returns-in-Some c =
    let s = syntax c.args.ast.now in
    let production = c.in-Some.production.now in
    let some : slice_get s.productions c.args.index ≡ Some (production_view production) =
    ap (λ (productions : List Production). slice_get productions c.args.index) (sym c.prods.ensures)
    ∙ slice_get-map production_view c.prods.result.now c.args.index
    ∙ ap (option_map production_view) (slice_get_read c.prods.result.now _ c.args.index production refl c.in-Some.ensures.lookup.3.0 c.in-Some.ensures.lookup.1) in
    let errors : located_errors s c.args.index ≡ production_errors s (production_view production) = ap (λ found. option_map_or (production_errors s) found []) some in
    subst (λ (more : List GrammarError). OnOk c.push_production.result (c.push_production.new.errors.items ≡ c.args.errors.now.items ++ more)) (sym errors)
    c.push_production.ensures
