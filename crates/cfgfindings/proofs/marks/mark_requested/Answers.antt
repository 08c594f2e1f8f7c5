use Rattle.std.proofs.Common.{[], ◌∷◌, Option, String, Global, option_map, string_bytes, sym, subst}
use Rattle.std.specs.Option.{option_to_list}
use Rattle.cfgrammar.specs.TreeView.{syntax}
use Rattle.cfgfindings.specs.Inner.Marks.{Marks, table_keys}
use Rattle.cfgfindings.proofs.Marking.{marks_none}
use Rattle.cfgfindings.proofs.marks.mark_requested.Goals as goal

pub returns-in-Some : goal.returns-in-Some
returns-in-Some c =
    let keys = table_keys c.args.table (syntax c.args.ast.now) in
    subst (λ (o : Option (String Global)). Marks keys (option_to_list (option_map string_bytes o)) c.args.marks.now c.mark.new.marks) (sym c.in-Some.is)
    (subst (λ name. Marks keys (name ∷ []) c.args.marks.now c.mark.new.marks) c.deref.ensures c.mark.ensures)

pub returns-in_default : goal.returns-in_default
returns-in_default c =
    let keys = table_keys c.args.table (syntax c.args.ast.now) in
    subst (λ (o : Option (String Global)). Marks keys (option_to_list (option_map string_bytes o)) c.args.marks.now c.args.marks.now) (sym c.in_default.is)
    (marks_none keys c.args.marks.now)
