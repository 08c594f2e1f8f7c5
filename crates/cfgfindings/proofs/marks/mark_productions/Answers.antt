use Rattle.std.proofs.Common.{◌<◌, ◌≤◌, List, arith, length, subst, sym, ◌∙◌}
use Rattle.std.specs.List.{flat_map}
use Rattle.std.proofs.lemmas.List.Folds.{flat_map-map}
use Rattle.cfgrammar.specs.Syntax as plain
use Rattle.cfgrammar.specs.SyntaxView.{production_view}
use Rattle.cfgrammar.specs.AstProduction.{Production}
use Rattle.cfgrammar.specs.TreeView.{syntax}
use Rattle.cfgfindings.specs.Inner.Marks.{Marks, names_by, table_keys}
use Rattle.cfgfindings.proofs.Marking.{marks_all, marks_more, marks_none}
use Rattle.cfgfindings.proofs.marks.mark_productions.Goals as goal

pub loop-production-init : goal.loop-production-init
loop-production-init c = marks_none _ _

pub mark_production-requires : goal.mark_production-requires
mark_production-requires c = c.loop-production.invariant.shape ∙ c.requires

pub loop-production-preserved : goal.loop-production-preserved
loop-production-preserved c =
    let productions = c.prods-production-items.result.now in
    let within : c.loop-production.production-index < length productions = omega (arith, c.loop-production-test.true) in
    marks_more (table_keys c.args.table (syntax c.args.ast.now)) (λ (production : Production). names_by c.args.table (production_view production)) productions
    c.loop-production.production-index _ _ _ _ within c.production-item.is c.loop-production.invariant c.mark_production.ensures

pub returns : goal.returns
returns c =
    let keys = table_keys c.args.table (syntax c.args.ast.now) in
    let names = names_by c.args.table in
    let productions = c.prods-production-items.result.now in
    let past : length productions ≤ c.loop-production.production-index = omega (arith, c.loop-production-test.false, c.loop-production.auto.production-index-end) in
    subst (λ (productions : List plain.Production). Marks keys (flat_map names productions) c.args.marks.now c.loop-production.marks) c.prods-production-items.ensures
    (subst (λ all. Marks keys all c.args.marks.now c.loop-production.marks) (sym (flat_map-map names production_view productions))
    (marks_all keys (λ (production : Production). names (production_view production)) productions _ _ _ past c.loop-production.invariant))
