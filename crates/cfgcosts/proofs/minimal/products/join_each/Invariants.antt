use Rattle.std.proofs.Common.{◌≡◌, ◌++◌, map, take}
use Rattle.cfgcosts.specs.Sentences.{numbers_of}
use Rattle.cfgcosts.proofs.minimal.products.join_each.Given as goal

abbrev pub invariant-loop-suffix : goal.invariant-loop-suffix
invariant-loop-suffix g l =
    let numbers = numbers_of g.S.Storage.number in
    map numbers l.words.items ≡ map numbers l.fn.words.items ++ map (λ suffix. numbers l.fn.prefix ++ suffix) (map numbers (take l.suffix-index l.others))
