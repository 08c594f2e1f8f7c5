use Rattle.std.proofs.Common.{map, option_map, sym, ap, ◌∙◌}
use Rattle.cfgitems.specs.SyntaxView.{span_entry}
use Rattle.cfgast.specs.TreeView.{syntax}
use Rattle.cfgnumbers.proofs.Marks.{avoided}
use Rattle.cfgnumbers.proofs.numbering.marks.avoids_insert.Goals as goal

pub returns-in-Some : goal.returns-in-Some
returns-in-Some c =
    c.contains_key.ensures
    ∙ avoided (syntax c.args.ast.now) c.args.name.now c.in-Some.table.entries
    (sym (ap (option_map (λ table. map span_entry table.entries)) c.in-Some.is) ∙ c.avoid_insert.ensures)
