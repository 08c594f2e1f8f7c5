use Rattle.std.proofs.Common.{◌≡◌, map, ap, string_bytes, ◌∙◌}
use Rattle.std.proofs.lemmas.Result.{IfOk-weaker}
use Rattle.bison_reader.specs.Items.{item_view}
use Rattle.bison_words.specs.Words.{word_view}
use Rattle.bison_tree.specs.Inner.Views.{aliases_view}
use Rattle.bison_tree.specs.Names.{aliases_of, called, names_of, own_names}
use Rattle.bison_tree.proofs.aliases.names_of.Goals as goal

pub returns : goal.returns
unfolding names_of
returns c =
    let words = map word_view c.args.words.now in
    let items = map item_view c.args.items.now in
    let first : map string_bytes c.as_slice.result.now ≡ own_names words = ap (map string_bytes) c.as_slice.ensures.value ∙ c.in_ok-own.ensures in
    let again : map string_bytes c.as_slice-2.result.now ≡ own_names words = ap (map string_bytes) c.as_slice-2.ensures.value ∙ c.in_ok-own.ensures in
    let aliases : aliases_view c.in_ok-aliases.aliases ≡ aliases_of (own_names words) items =
    c.in_ok-aliases.ensures ∙ ap (λ own. aliases_of own items) first in
    IfOk-weaker c.called.result
    (λ names. map string_bytes names.items ≡ map (called (aliases_view c.in_ok-aliases.aliases)) (map string_bytes c.as_slice-2.result.now))
    (λ names. map string_bytes names.items ≡ names_of words items)
    (λ names e. e ∙ (λ i. map (called (aliases i)) (again i)))
    c.called.ensures
