use Rattle.std.proofs.Common.{◌++◌, map, option_map, string_bytes, ap, ◌∙◌}
use Rattle.std.proofs.lemmas.Result.{on_ok_weaker}
use Rattle.cfgitems.specs.Building.{adds, has_name}
use Rattle.cfgitems.specs.SyntaxView.{syntax_built}
use Rattle.bison_reader.specs.Items.{item_view}
use Rattle.bison_words.specs.Words.{word_view}
use Rattle.bison_tree.specs.Names.{each_once}
use Rattle.bison_tree.specs.Tokens.{token_names, tokens_of}
use Rattle.bison_tree.specs.Tree.{programs_items, rules_items, token_quoted}
use Rattle.bison_tree.proofs.Whole.{all_added}
use Rattle.bison_tree.proofs.tree.add_file.Goals as goal

pub returns : goal.returns
returns c =
    let words = c.as_slice-words.ensures.value in
    let items = c.as_slice-items.ensures.value in
    let names = map string_bytes c.args.names.now in
    let keys = map string_bytes c.in_ok-set.set.keys in
    let epilogue = option_map (λ text. text.now) c.args.file.now.words.epilogue in
    on_ok_weaker c.add_all.result
    (λ added. all_added (map word_view c.args.file.now.words.words.items) (map item_view c.args.file.now.items.items) epilogue
    (syntax_built c.args.builder.now) (syntax_built c.add_all.new.builder) names keys c.in_ok-tokens.tokens.items c.requires
    (c.in_ok-tokens.ensures ∙ (λ i. tokens_of (map word_view (words i)) (map item_view (items i))))
    (c.in_ok-set.ensures ∙ ap (λ tokens. each_once (token_names names tokens)) c.as_slice.ensures.value)
    (added ∙ (λ i. adds (syntax_built c.args.builder.now)
    (map (token_quoted (map word_view (words i)) names) (c.as_slice-2.ensures.value i)
    ++ (rules_items (map word_view (words i)) names (λ name. has_name name keys) (map item_view (items i))
    ++ programs_items epilogue)))))
    c.add_all.ensures
