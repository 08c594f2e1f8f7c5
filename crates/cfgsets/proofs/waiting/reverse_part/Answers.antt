use Rattle.std.proofs.Common.{◌-◌, length, take, subst}
use borrow.Rule.Slice.PartMut.{post_of, put_mid, put_same}
use Rattle.std.specs.List.Sorted.{IsPermutation}
use Rattle.std.proofs.lemmas.List.Sorted.{IsPermutation-append_left, IsPermutation-append_right}
use Rattle.cfgsets.proofs.waiting.reverse_part.Goals as goal

pub returns : goal.returns
returns c =
    let xs = c.args.numbers.now in
    let many = length xs - c.args.from in
    subst (λ l. IsPermutation l (put_mid c.args.from many xs c.reverse.new.self)) (put_same c.args.from many xs)
    (IsPermutation-append_right (take c.args.from xs) _ _ (IsPermutation-append_left (post_of c.args.from many xs) _ _ c.reverse.ensures.permutation))
