use Rattle.std.proofs.Common.{◌≡◌, false, [], get_or, ap, ◌∙◌}
use Rattle.std.proofs.lemmas.Option.{unwrap_or-slice_get}
use Rattle.std.specs.Option.{unwrap_or}
use Rattle.cfgsets.specs.Table.{row_of}
use Rattle.cfganalysis.proofs.bits.BitTable.is_set.Goals as goal

pub returns-in-Some : goal.returns-in-Some
returns-in-Some c =
    let row : c.in-Some.bits.now ≡ row_of c.args.self.now c.args.row =
    c.in-Some.ensures.lookup.3.1 [] ∙ ap (λ l. get_or l c.args.row []) c.deref.ensures.value ∙ ap (λ x. get_or x.rows c.args.row []) c.self.view_is in
    c.unwrap_or.ensures ∙ ap (λ o. unwrap_or o false) c.get-in-Some.ensures ∙ unwrap_or-slice_get c.in-Some.bits.now c.args.column false
    ∙ ap (λ l. get_or l c.args.column false) row
