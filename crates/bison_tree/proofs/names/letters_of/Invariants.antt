use Rattle.std.proofs.Common.{◌≡◌, map, fold, drop}
use Rattle.std.specs.String.{string_bytes}
use Rattle.bison_words.specs.Words.{word_view}
use Rattle.bison_tree.specs.Names.{each_once, letters_of, with_one}
use Rattle.bison_tree.proofs.names.letters_of.Given as goal

-- those so far, with those of the rest
abbrev pub invariant-loop-word : goal.invariant-loop-word
invariant-loop-word l =
    fold with_one (map string_bytes l.letters.keys) (letters_of (map word_view (drop l.word-index l.words)))
    ≡ each_once (letters_of (map word_view l.words))
