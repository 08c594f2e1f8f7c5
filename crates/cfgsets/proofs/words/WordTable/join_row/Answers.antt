use Rattle.std.proofs.Common.{◌+◌, ◌*◌, ◌≤◌, length, refl, sym, ap, ◌∙◌, subst, arith}
use Rattle.cfgsets.specs.Table.{row_of}
use Rattle.cfgsets.specs.Inner.Flat.{JoinsWords, words_of}
use Rattle.cfgsets.proofs.Flat.{row_below, row_is, row_fits_in, rows_apart, now_rows, now_joins}
use Rattle.cfgsets.proofs.words.WordTable.join_row.Goals as goal

pub overflow_mul-row : goal.overflow_mul-row
overflow_mul-row c =
    let fits = row_fits_in _ _ _ _ c.self.invariant _ c.self.view_is c.args.row c.requires.row in
    omega (arith, fits, c.self.inside.words.ok.0, c.self.inside.words.small)

pub overflow_mul-other : goal.overflow_mul-other
overflow_mul-other c =
    let fits = row_fits_in _ _ _ _ c.self.invariant _ c.self.view_is c.args.other c.requires.other in
    omega (arith, fits, c.self.inside.words.ok.0, c.self.inside.words.small)

pub join_words-requires-clause-to : goal.join_words-requires-clause-to
join_words-requires-clause-to c = subst (λ l. c.args.row * c.self.inside.row_words + c.self.inside.row_words ≤ length l) (sym c.as_mut_slice.ensures.value)
    (row_fits_in _ _ _ _ c.self.invariant _ c.self.view_is c.args.row c.requires.row)

pub join_words-requires-clause-from : goal.join_words-requires-clause-from
join_words-requires-clause-from c = subst (λ l. c.args.other * c.self.inside.row_words + c.self.inside.row_words ≤ length l) (sym c.as_mut_slice.ensures.value)
    (row_fits_in _ _ _ _ c.self.invariant _ c.self.view_is c.args.other c.requires.other)

pub join_words-requires-clause-apart : goal.join_words-requires-clause-apart
join_words-requires-clause-apart c = rows_apart c.self.inside.row_words c.args.row c.args.other c.if-row-other.true

pub invariant_of-self : goal.invariant_of-self
invariant_of-self c =
    let below = row_below _ _ _ _ c.self.invariant _ c.self.view_is c.args.other c.requires.other in
    now_rows c.self.inside.words _ _ _ c.self.invariant _ c.self.view_is _ c.requires.row _ (words_of c.self.inside.row_words c.self.inside.words.items c.args.other)
    _ _ _ c.as_mut_slice.ensures.value (c.self.invariant.each c.args.other below) refl
    (subst (λ l. JoinsWords (c.args.row * c.self.inside.row_words) c.self.inside.row_words (words_of c.self.inside.row_words l c.args.other)
    c.as_mut_slice.result.now c.join_words.new.words c.join_words.result) c.as_mut_slice.ensures.value c.join_words.ensures)

pub returns-then-row-other : goal.returns-then-row-other
returns-then-row-other c =
    let below = row_below _ _ _ _ c.self.invariant _ c.self.view_is c.args.other c.requires.other in
    now_joins c.self.inside.words _ _ _ c.self.invariant _ c.self.view_is _ c.requires.row _ (words_of c.self.inside.row_words c.self.inside.words.items c.args.other)
    _ _ _ c.as_mut_slice.ensures.value (c.self.invariant.each c.args.other below) refl
    (subst (λ l. JoinsWords (c.args.row * c.self.inside.row_words) c.self.inside.row_words (words_of c.self.inside.row_words l c.args.other)
    c.as_mut_slice.result.now c.join_words.new.words c.join_words.result) c.as_mut_slice.ensures.value c.join_words.ensures)
    _ (sym (row_is _ _ _ _ c.self.invariant c.args.other below) ∙ ap (λ x. row_of x c.args.other) c.self.view_is)
