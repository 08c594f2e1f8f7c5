use Rattle.std.proofs.Common.{◌≡◌, Ok, map, option_map, ap, ◌∙◌}
use Rattle.std.proofs.lemmas.Result.{IfOk-weaker, IfOk-at_ok}
use Rattle.cfgitems.specs.Building.{adds}
use Rattle.cfgitems.specs.Syntax.{syntax_of}
use Rattle.cfgitems.specs.SyntaxView.{syntax_built, syntax_view}
use Rattle.bison_reader.specs.Items.{item_view}
use Rattle.bison_words.specs.Words.{word_view}
use Rattle.bison_tree.specs.Tree.{tree_items}
use Rattle.bison_tree.proofs.tree.syntax_of.Goals as goal

pub returns : goal.returns
returns c =
    let items = tree_items (map word_view c.args.file.now.words.words.items) (map item_view c.args.file.now.items.items)
    (option_map (λ text. text.now) c.args.file.now.words.epilogue) in
    IfOk-weaker c.if_added.result
    (λ whole. (whole ≡ c.finish.result) × (c.add_file-added.result ≡ Ok tt))
    (λ made. syntax_view made ≡ syntax_of items)
    (λ made is. ap syntax_view is.0 ∙ c.finish.ensures
    ∙ IfOk-at_ok (λ _. syntax_built c.add_file-added.new.builder ≡ adds (syntax_built c.new-builder.result) items) is.1 c.add_file-added.ensures
    ∙ ap (λ s. adds s items) c.new-builder.ensures ∙ c.built_is_syntax.ensures items)
    c.if_added.ensures
