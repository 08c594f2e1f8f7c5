use Rattle.std.proofs.Common.{◌≡◌, map, take}
use Rattle.std.specs.String.{string_bytes}
use Rattle.cfgitems.specs.Building.{has_name}
use Rattle.bison_words.specs.Words.{word_view}
use Rattle.bison_tree.specs.Names.{own_name}
use Rattle.bison_tree.proofs.names.named.Given as goal

abbrev pub invariant-loop-word : goal.invariant-loop-word
invariant-loop-word l =
    map string_bytes l.names.items ≡ map (λ word. own_name (λ name. has_name name (map string_bytes l.letters.keys)) word.lexeme) (map word_view (take l.word-index l.words))
