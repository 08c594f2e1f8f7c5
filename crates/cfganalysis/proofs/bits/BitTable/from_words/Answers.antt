use Rattle.std.proofs.Common.{◌≡◌, All, length, sym, ◌∙◌, subst, arith}
use Rattle.std.proofs.lemmas.List.{take_all}
use Rattle.cfganalysis.proofs.bits.BitTable.from_words.Goals as goal

pub invariant_of-result : goal.invariant_of-result
invariant_of-result c = subst (All (λ row. length row ≡ c.columns-columns.result))
    (sym (c.loop-row.invariant ∙ take_all _ _ (omega (arith, c.loop-row-test.false, c.rows-row-end.ensures)))) c.columns-columns.ensures.wide
