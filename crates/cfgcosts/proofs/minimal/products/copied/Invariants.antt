use Rattle.std.proofs.Common.{◌≡◌, map, take}
use Rattle.cfgcosts.specs.Sentences.{numbers_of}
use Rattle.cfgcosts.proofs.minimal.products.copied.Given as goal

abbrev pub invariant-loop-word : goal.invariant-loop-word
invariant-loop-word g l = let numbers = numbers_of g.S.Storage.number in map numbers l.copy.items ≡ map numbers (take l.word-index l.words)
