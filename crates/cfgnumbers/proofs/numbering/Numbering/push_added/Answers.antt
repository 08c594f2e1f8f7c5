use Rattle.std.proofs.Common.{◌≡◌, ◌++◌, ◌∷◌, [], option_map, sym, subst, ap, ◌∙◌}
use Rattle.std.specs.Result.{OnOk}
use Rattle.cfgnumbers.specs.Numbered.{added_production, added_productions, start_symbols}
use Rattle.cfgnumbers.specs.TablesView.{names, file_of}
use Rattle.cfgnumbers.proofs.numbering.Numbering.push_added.Goals as goal

pub returns-in-Some : goal.returns-in-Some
returns-in-Some g c = rw c.in-Some.is c.push_for_implicit.ensures

pub returns-in-None : goal.returns-in-None
returns-in-None g c =
    let s = file_of c.args.self.now in
    let symbols = sym c.start_symbol.ensures ∙ ap (λ table. start_symbols (option_map (λ table. names table.now.entries) table) s) c.in-None.is in
    subst (λ table. OnOk c.push_added_row.result (c.push_added_row.new.rows
    ≡ c.args.rows.now ++ added_productions (option_map (λ table. names table.now.entries) table) s)) (sym c.in-None.is)
    (subst (λ symbols. OnOk c.push_added_row.result (c.push_added_row.new.rows
    ≡ c.args.rows.now ++ added_production 0 symbols ∷ [])) symbols c.push_added_row.ensures)
