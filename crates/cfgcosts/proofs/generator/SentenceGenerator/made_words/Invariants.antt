use Rattle.std.proofs.Common.{◌≡◌, take}
use Rattle.std.specs.List.{flat_map}
use Rattle.cfgtables.specs.Openings.{nth_production}
use Rattle.cfgchoices.specs.Kinds.{production_numbers}
use Rattle.cfgcosts.specs.Inner.Minimal.{sequence_words, sentences_in, words_of}
use Rattle.cfgcosts.proofs.generator.SentenceGenerator.made_words.Given as goal

abbrev pub invariant-loop-p : goal.invariant-loop-p
invariant-loop-p g l =
    let number = g.S.Storage.number in
    words_of number l.words ≡ flat_map (λ p. sequence_words (sentences_in number l.table) (nth_production l.self.grammar p).symbols) (take l.p-index (production_numbers number l.base))
