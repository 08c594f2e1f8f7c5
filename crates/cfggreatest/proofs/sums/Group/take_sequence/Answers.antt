use Rattle.std.proofs.Common.{inl, refl}
use Rattle.std.proofs.lemmas.Result.{err_from_is_err_and}
use Rattle.cfggreatest.proofs.sums.Group.take_sequence.Goals as goal

pub returns-then-not-are_productive : goal.returns-then-not-are_productive
returns-then-not-are_productive g c = inl (c.if-not-are_productive.ensures, refl)

pub returns-in_err-sequence : goal.returns-in_err-sequence
returns-in_err-sequence g c = let p = err_from_is_err_and c.from_residual.result c.from_residual.ensures.1 in
    rw p.1 (c.if-not-are_productive.ensures, inl c.in_err-sequence.ensures)
