use Rattle.std.proofs.Common.{◌<◌, ◌+◌, ◌*◌, ◌/◌, sym, ap, ◌∙◌, subst, arith}
use Rattle.cfgsets.specs.Table.{bit, with_bit}
use Rattle.cfgsets.proofs.Flat.{columns_are, row_below, row_fits_in, position_within, rows_set, table_set, bit_was, was_off}
use Rattle.cfgsets.proofs.words.WordTable.set.Goals as goal

pub overflow_mul-index : goal.overflow_mul-index
overflow_mul-index c =
    let fits = row_fits_in _ _ _ _ c.self.invariant _ c.self.view_is c.args.row c.requires.row in
    omega (arith, fits, c.self.inside.words.ok.0, c.self.inside.words.small)

pub overflow_add-index : goal.overflow_add-index
overflow_add-index c =
    let fits = position_within _ _ _ _ c.self.invariant c.args.row c.args.column (row_below _ _ _ _ c.self.invariant _ c.self.view_is _ c.requires.row)
    (subst (λ n. c.args.column < n) (sym (columns_are _ _ _ _ c.self.invariant _ c.self.view_is)) c.requires.column) in
    omega (arith, fits, c.self.inside.words.ok.0, c.self.inside.words.small)

pub index-word-requires : goal.index-word-requires
index-word-requires c = subst (λ n. c.args.row * c.self.inside.row_words + c.args.column / 64 < n) (sym c.self.inside.words.ok.0)
    (position_within _ _ _ _ c.self.invariant c.args.row c.args.column (row_below _ _ _ _ c.self.invariant _ c.self.view_is _ c.requires.row)
    (subst (λ n. c.args.column < n) (sym (columns_are _ _ _ _ c.self.invariant _ c.self.view_is)) c.requires.column))

pub index_mut-requires : goal.index_mut-requires
index_mut-requires c = subst (λ n. c.args.row * c.self.inside.row_words + c.args.column / 64 < n) (sym c.self.inside.words.ok.0)
    (position_within _ _ _ _ c.self.invariant c.args.row c.args.column (row_below _ _ _ _ c.self.invariant _ c.self.view_is _ c.requires.row)
    (subst (λ n. c.args.column < n) (sym (columns_are _ _ _ _ c.self.invariant _ c.self.view_is)) c.requires.column))

pub invariant_of-self : goal.invariant_of-self
invariant_of-self c = rows_set _ _ _ _ c.self.invariant _ _ (row_below _ _ _ _ c.self.invariant _ c.self.view_is _ c.requires.row)
    (subst (λ n. c.args.column < n) (sym (columns_are _ _ _ _ c.self.invariant _ c.self.view_is)) c.requires.column) _ _ c.index-word.ensures
    c.with_bit.ensures.here c.with_bit.ensures.others c.with_bit.type_inv

pub returns-clause-bits : goal.returns-clause-bits
returns-clause-bits c = table_set _ _ _ _ c.self.invariant _ _ (row_below _ _ _ _ c.self.invariant _ c.self.view_is _ c.requires.row)
    (subst (λ n. c.args.column < n) (sym (columns_are _ _ _ _ c.self.invariant _ c.self.view_is)) c.requires.column) _ _ c.index-word.ensures
    c.with_bit.ensures.here c.with_bit.ensures.others c.with_bit.type_inv ∙ ap (λ x. with_bit x c.args.row c.args.column) c.self.view_is

pub returns-clause-changed : goal.returns-clause-changed
returns-clause-changed c = was_off _ _ (ap (λ x. bit x c.args.row c.args.column) (sym c.self.view_is)
    ∙ bit_was _ _ _ _ c.self.invariant _ _ (row_below _ _ _ _ c.self.invariant _ c.self.view_is _ c.requires.row)
    (subst (λ n. c.args.column < n) (sym (columns_are _ _ _ _ c.self.invariant _ c.self.view_is)) c.requires.column) _ _ c.index-word.ensures
    c.with_bit.ensures.here c.with_bit.ensures.others c.with_bit.type_inv ∙ sym c.has_bit.ensures)
