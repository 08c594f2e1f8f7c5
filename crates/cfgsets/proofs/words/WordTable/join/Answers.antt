use Rattle.std.proofs.Common.{length, sym, ap, ◌∙◌, subst, arith}
use Rattle.cfgindex.specs.BitWords.{AreWords, bits_of}
use Rattle.cfgsets.proofs.Flat.{columns_are, row_fits_in, as_many, now_rows, now_joins}
use Rattle.cfgsets.proofs.words.WordTable.join.Goals as goal

pub overflow_mul-row : goal.overflow_mul-row
overflow_mul-row c =
    let fits = row_fits_in _ _ _ _ c.self.invariant _ c.self.view_is c.args.row c.requires.row in
    omega (arith, fits, c.self.inside.words.ok.0, c.self.inside.words.small)

pub join_list-requires : goal.join_list-requires
join_list-requires c =
    let columns = c.requires.columns ∙ sym (columns_are _ _ _ _ c.self.invariant _ c.self.view_is) in
    let many = as_many _ _ _ _ c.self.invariant _ c.self.view_is c.args.row c.requires.row _ (subst (λ n. AreWords n c.words.result.now) columns c.words.ensures.words) in
    let fits = row_fits_in _ _ _ _ c.self.invariant _ c.self.view_is c.args.row c.requires.row in
    omega (arith, many, fits, ap length c.as_mut_slice.ensures.value)

pub invariant_of-self : goal.invariant_of-self
invariant_of-self c =
    let columns = c.requires.columns ∙ sym (columns_are _ _ _ _ c.self.invariant _ c.self.view_is) in
    let words = subst (λ n. AreWords n c.words.result.now) columns c.words.ensures.words in
    now_rows c.self.inside.words _ _ _ c.self.invariant _ c.self.view_is _ c.requires.row _ _ _ _ _ c.as_mut_slice.ensures.value words
    (as_many _ _ _ _ c.self.invariant _ c.self.view_is c.args.row c.requires.row _ words) c.join_list.ensures

pub returns : goal.returns
returns c =
    let columns = c.requires.columns ∙ sym (columns_are _ _ _ _ c.self.invariant _ c.self.view_is) in
    let words = subst (λ n. AreWords n c.words.result.now) columns c.words.ensures.words in
    now_joins c.self.inside.words _ _ _ c.self.invariant _ c.self.view_is _ c.requires.row _ _ _ _ _ c.as_mut_slice.ensures.value words
    (as_many _ _ _ _ c.self.invariant _ c.self.view_is c.args.row c.requires.row _ words) c.join_list.ensures
    _ (ap (bits_of c.words.result.now) (sym columns) ∙ c.words.ensures.bits)
