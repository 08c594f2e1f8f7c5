use Rattle.std.proofs.Common.{map}
use Rattle.cfgcosts.specs.Inner.Minimal.{sentences_in, words_of}
use Rattle.cfgcosts.proofs.Components.{AreMoved}
use Rattle.cfgcosts.proofs.generator.SentenceGenerator.all_min_sentences.Given as goal

abbrev pub invariant-loop-number : goal.invariant-loop-number
invariant-loop-number g l =
    let number = g.S.Storage.number in
    AreMoved l.self l.number-counter (map (words_of number) l.all.items) (sentences_in number l.table)
