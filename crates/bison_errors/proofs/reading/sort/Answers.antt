use Rattle.std.proofs.Common.{rules}
use Rattle.std.proofs.lemmas.Fn.{always_returns_same}
use Rattle.bison_errors.specs.Errors.{offset_of}
use Rattle.bison_errors.proofs.reading.sort.Goals as goal

pub returns : goal.returns
returns c = record {
  same = c.sort_by_key.ensures.permutation;
  sorted = c.in_ok-sort_by_key.ensures.sorted offset_of (always_returns_same _ _ _ (λ a r f called. search rules));
  stable = c.in_ok-sort_by_key.ensures.stable offset_of (always_returns_same _ _ _ (λ a r f called. search rules));
}
