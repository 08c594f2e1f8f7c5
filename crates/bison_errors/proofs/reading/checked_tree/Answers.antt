use Rattle.std.proofs.Common.{◌≡◌, ◌==◌, List, length, map, string_bytes, subst, ap, ◌∙◌}
use Rattle.std.proofs.lemmas.Result.{IfOk-weaker}
use Rattle.cfgast.specs.TreeView.{syntax}
use Rattle.cfgitems.specs.Syntax.{syntax_of}
use Rattle.bison_reader.specs.Items.{item_view}
use Rattle.bison_words.specs.Words.{word_view}
use Rattle.bison_errors.specs.declared.error.Error.{Error}
use Rattle.bison_errors.specs.Errors.{AreErrors, name_errors, text_errors}
use Rattle.bison_tree.specs.Names.{names_of}
use Rattle.bison_errors.specs.Reading.{name_errors_of, text_errors_of, tree_of}
use Rattle.bison_tree.specs.Tree.{tree_items}
use Rattle.bison_errors.proofs.reading.checked_tree.Goals as goal

pub returns-clause-tree : goal.returns-clause-tree
unfolding tree_of
returns-clause-tree c =
    let words = c.requires.words.words_are in
    let items = c.requires.items in
    let epilogue = c.requires.words.epilogue_is in
    let tree : syntax c.in_ok-ast.ast ≡ tree_of c.args.text.now =
    c.in_ok-ast.ensures ∙ (λ i. syntax_of (tree_items (words i) (items i) (epilogue i))) in
    IfOk-weaker c.with_errors.result
    (λ both. both.0 ≡ c.in_ok-ast.ast)
    (λ both. syntax both.0 ≡ tree_of c.args.text.now)
    (λ both is. ap syntax is ∙ tree)
    c.with_errors.ensures.tree

pub returns-clause-errors : goal.returns-clause-errors
unfolding tree_of
returns-clause-errors c =
    let text = c.args.text.now in
    let words = c.requires.words.words_are in
    let faults = c.requires.words.faults_are in
    let items = c.requires.items in
    let epilogue = c.requires.words.epilogue_is in
    let seen = ap (map item_view) c.as_slice-items.ensures.value ∙ items in
    let names : map string_bytes c.as_slice-3.result.now ≡ names_of _ _ =
    ap (map string_bytes) c.as_slice-3.ensures.value ∙ c.in_ok-names.ensures
    ∙ (λ i. names_of ((ap (map word_view) c.as_slice.ensures.value ∙ words) i) (seen i)) in
    let tree : syntax c.in_ok-ast.ast ≡ tree_of text = c.in_ok-ast.ensures ∙ (λ i. syntax_of (tree_items (words i) (items i) (epilogue i))) in
    let file = c.args.file.now in
    let text_reported : List Error = text_errors (map word_view file.words.words.items) file.words.faults.items (map item_view file.items.items) in
    let names_reported : List Error = name_errors (length text_reported == 0) (map word_view file.words.words.items)
    (map string_bytes c.as_slice-3.result.now) (map item_view file.items.items) (syntax c.in_ok-ast.ast) in
    let of_text : text_reported ≡ text_errors_of text = λ i. text_errors (words i) (faults i) (items i) in
    let of_names : names_reported ≡ name_errors_of text = λ i. name_errors (length (of_text i) == 0) (words i) (names i) (items i) (tree i) in
    IfOk-weaker c.with_errors.result
    (λ both. AreErrors text_reported names_reported both.1.items)
    (λ both. AreErrors (text_errors_of text) (name_errors_of text) both.1.items)
    (λ both are. subst (λ (l : List Error). AreErrors (text_errors_of text) l both.1.items) of_names
    (subst (λ (l : List Error). AreErrors l names_reported both.1.items) of_text are))
    c.with_errors.ensures.errors
