use Rattle.std.proofs.Common.{map, take}
use Rattle.cfgcosts.specs.Inner.Minimal.{PutsEach, sentences_in}
use Rattle.cfgcosts.specs.Sentences.{numbers_of}
use Rattle.cfgcosts.proofs.minimal.table.put_each.Given as goal

abbrev pub invariant-loop-rule : goal.invariant-loop-rule
invariant-loop-rule g l =
    let number = g.S.Storage.number in
    PutsEach (take l.rule-index l.rules) (map (numbers_of number) l.words) (sentences_in number l.fn.table) (sentences_in number l.table)
