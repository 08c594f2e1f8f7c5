use Rattle.std.proofs.Common.{◌≡◌, ◌++◌, map}
use Rattle.cfgcosts.specs.Sentences.{numbers_of}
use Rattle.cfgcosts.specs.Inner.Minimal.{joined}
use Rattle.cfgcosts.proofs.minimal.products.join_all.Given as goal

abbrev pub invariant-loop-prefix : goal.invariant-loop-prefix
invariant-loop-prefix g l =
    let numbers = numbers_of g.S.Storage.number in
    record {
      given : l.fn.prefixes.items ≡ l.yielded ++ l.prefix-iterator.rest.items;
      words : map numbers l.words.items ≡ joined (map numbers l.yielded) (map numbers l.suffixes);
    }
