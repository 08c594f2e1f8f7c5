use Rattle.std.proofs.Common.{◌≡◌, ◌==◌, ◌++◌, List, length, map, string_bytes, subst, ◌∙◌}
use Rattle.cfgast.specs.TreeView.{syntax}
use Rattle.bison_reader.specs.Items.{item_view}
use Rattle.bison_words.specs.Words.{word_view}
use Rattle.bison_errors.specs.declared.error.Error.{Error}
use Rattle.bison_errors.specs.Errors.{AreByOffset, name_errors, text_errors}
use Rattle.bison_errors.proofs.reading.errors_of.Goals as goal

pub returns : goal.returns
returns c =
    let words = c.as_slice-words.ensures.value in
    let items = c.as_slice-items.ensures.value in
    let faults = c.as_slice.ensures.value in
    let names = map string_bytes c.args.names.now in
    let reported : List Error =
    text_errors (map word_view c.args.file.now.words.words.items) c.args.file.now.words.faults.items (map item_view c.args.file.now.items.items) in
    let of_text : c.push_text_errors.new.errors.items ≡ reported =
    c.in_ok-push_text_errors.ensures
    ∙ (λ i. c.new-errors.ensures.items i ++ text_errors (map word_view (words i)) (faults i) (map item_view (items i))) in
    let seen : c.as_slice-2.result.now ≡ reported = c.as_slice-2.ensures.value ∙ of_text in
    let of_names : List Error = c.in_ok-of_names.of_names.items in
    record {
      of_text = c.sort.new.errors.items;
      of_names = of_names;
      text_sorted = subst (λ (l : List Error). AreByOffset l c.sort.new.errors.items) of_text c.in_ok-sort.ensures;
      names_sorted = subst (λ (l : List Error). AreByOffset l of_names)
          (λ i. name_errors (length (seen i) == 0) (map word_view (words i)) names (map item_view (items i)) (syntax c.args.ast.now))
          c.in_ok-of_names.ensures;
      all = c.in_ok-append.ensures.items;
    }
