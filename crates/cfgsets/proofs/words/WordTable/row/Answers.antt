use Rattle.std.proofs.Common.{◌+◌, ◌*◌, ◌≤◌, sym, subst, arith, length}
use Rattle.cfgsets.proofs.Flat.{row_fits_in, row_words_are, row_bits_are}
use Rattle.cfgsets.proofs.words.WordTable.row.Goals as goal

pub overflow_mul-row : goal.overflow_mul-row
overflow_mul-row c =
    let fits = row_fits_in _ _ _ _ c.self.invariant _ c.self.view_is c.args.row c.requires in
    omega (arith, fits, c.self.inside.words.ok.0, c.self.inside.words.small)

pub part-requires : goal.part-requires
part-requires c = subst (λ l. c.args.row * c.self.inside.row_words + c.self.inside.row_words ≤ length l) (sym c.as_slice.ensures.value)
    (row_fits_in _ _ _ _ c.self.invariant _ c.self.view_is c.args.row c.requires)

pub returns-clause-words : goal.returns-clause-words
returns-clause-words c = row_words_are _ _ _ _ c.self.invariant _ c.self.view_is _ c.requires _ _ c.as_slice.ensures.value c.part.ensures

pub returns-clause-bits : goal.returns-clause-bits
returns-clause-bits c = row_bits_are _ _ _ _ c.self.invariant _ c.self.view_is _ c.requires _ _ c.as_slice.ensures.value c.part.ensures
