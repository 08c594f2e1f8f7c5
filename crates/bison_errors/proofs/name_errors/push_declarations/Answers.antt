use Rattle.std.proofs.Common.{◌++◌, map, string_bytes, refl, ap, ◌∙◌}
use Rattle.std.specs.List.{flat_map}
use Rattle.bison_words.specs.Words.{word_view}
use Rattle.bison_reader.specs.Items.{item_view}
use Rattle.bison_errors.specs.Errors.{declaration_errors}
use Rattle.bison_tree.specs.Tree.{first_start}
use Rattle.bison_tree.proofs.Steps.{stepped_by}
use Rattle.bison_errors.proofs.name_errors.push_declarations.Goals as goal

pub loop-item-preserved : goal.loop-item-preserved
loop-item-preserved c =
    let errors = declaration_errors (map word_view c.args.words.now) (map string_bytes c.args.names.now) in
    let first = first_start (map item_view c.args.items.now) in
    stepped_by item_view (flat_map (errors first)) (errors first) (λ y ys. refl)
    c.args.items.now c.loop-item.item-index c.item-item.result c.loop-item-test.true c.item-item.is
    c.loop-item.errors.items c.push_declaration.new.errors.items _
    (c.in_ok-push_declaration.ensures ∙ ap (λ first. c.loop-item.errors.items ++ errors first (item_view c.item-item.result)) c.first_start-first.ensures)
    c.loop-item.invariant
