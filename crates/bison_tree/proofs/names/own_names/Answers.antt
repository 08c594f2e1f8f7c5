use Rattle.std.proofs.Common.{◌≡◌, List, ℕ, map, ap, ◌∙◌}
use Rattle.std.proofs.lemmas.Result.{IfOk-weaker}
use Rattle.std.specs.String.{string_bytes}
use Rattle.cfgitems.specs.Building.{has_name}
use Rattle.bison_words.specs.Words.{Word, word_view}
use Rattle.bison_tree.specs.Names.{own_name, own_names}
use Rattle.bison_tree.proofs.Once.{own_names_once}
use Rattle.bison_tree.proofs.names.own_names.Goals as goal

pub returns : goal.returns
returns c =
    let words : List Word = map word_view c.args.words.now in
    let named : List (List ℕ) → List (List ℕ) = λ letters. map (λ (word : Word). own_name (λ name. has_name name letters) word.lexeme) words in
    IfOk-weaker c.named.result
    (λ names. map string_bytes names.items ≡ named (map string_bytes c.in_ok-letters.letters.keys))
    (λ names. map string_bytes names.items ≡ own_names words)
    (λ names e. e ∙ ap named c.in_ok-letters.ensures ∙ own_names_once words)
    c.named.ensures
