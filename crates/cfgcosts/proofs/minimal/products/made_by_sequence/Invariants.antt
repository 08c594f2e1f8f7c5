use Rattle.std.proofs.Common.{◌≡◌, map, take}
use Rattle.cfgtables.specs.NumberedSymbols.{sym_of}
use Rattle.cfgcosts.specs.Inner.Minimal.{sequence_words, sentences_in, words_of}
use Rattle.cfgcosts.proofs.minimal.products.made_by_sequence.Given as goal

abbrev pub invariant-loop-symbol : goal.invariant-loop-symbol
invariant-loop-symbol g l = words_of g.S.Storage.number l.words ≡ sequence_words (sentences_in g.S.Storage.number l.table) (map (sym_of g.S.Storage.number) (take l.symbol-index l.symbols))
