use Rattle.std.proofs.Common.{◌≡◌, map, take}
use Rattle.bison_words.specs.Words.{word_view}
use Rattle.bison_reader.specs.Sorts.{sorts_of}
use Rattle.bison_reader.proofs.sorts.sorts_of.Given as goal

abbrev pub invariant-loop-word : goal.invariant-loop-word
invariant-loop-word l = l.sorts.items ≡ sorts_of (map word_view (take l.word-index l.words))
