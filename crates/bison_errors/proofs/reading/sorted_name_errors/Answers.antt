use Rattle.std.proofs.Common.{List, ◌++◌, map, string_bytes, subst, ap, ◌∙◌}
use Rattle.cfgast.specs.TreeView.{syntax}
use Rattle.bison_reader.specs.Items.{item_view}
use Rattle.bison_words.specs.Words.{word_view}
use Rattle.bison_errors.specs.declared.error.Error.{Error}
use Rattle.bison_errors.specs.Errors.{AreByOffset, name_errors}
use Rattle.bison_errors.proofs.reading.sorted_name_errors.Goals as goal

pub returns : goal.returns
returns c =
    let reported : List Error =
    name_errors c.args.is_whole (map word_view c.args.words.now) (map string_bytes c.args.names.now) (map item_view c.args.items.now) (syntax c.args.ast.now) in
    subst (λ (l : List Error). AreByOffset l c.sort.new.errors.items)
    (c.in_ok-push_name_errors.ensures ∙ ap (λ (l : List Error). l ++ reported) c.new-errors.ensures.items)
    c.in_ok-sort.ensures
