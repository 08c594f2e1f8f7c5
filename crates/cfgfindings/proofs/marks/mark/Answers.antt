use Rattle.std.proofs.Common.{◌<◌, [], ◌∷◌, bytes_eq, sym, subst}
use Rattle.std.proofs.lemmas.List.Quantifiers.{position-Some}
use Rattle.cfgrammar.specs.TreeView.{syntax}
use Rattle.cfgfindings.specs.Inner.Marks.{Marks, table_keys}
use Rattle.cfgfindings.proofs.Marking.{marks_nothing, marks_one}
use Rattle.cfgfindings.proofs.marks.mark.Goals as goal

pub set-requires : goal.set-requires
set-requires c = subst (λ n. c.in-Some.index < n) (sym c.requires)
    (position-Some (bytes_eq c.args.name.now) (table_keys c.args.table (syntax c.args.ast.now)) c.in-Some.index [] (sym c.in-Some.ensures.index)).0

pub returns-in-Some : goal.returns-in-Some
returns-in-Some c =
    let keys = table_keys c.args.table (syntax c.args.ast.now) in
    let found = sym c.in-Some.ensures.index in
    let within = subst (λ n. c.in-Some.index < n) (sym c.requires) (position-Some (bytes_eq c.args.name.now) keys c.in-Some.index [] found).0 in
    subst (Marks keys (c.args.name.now ∷ []) c.args.marks.now) (sym c.set.ensures.bits)
    (marks_one keys c.in-Some.ensures.distinct c.args.name.now c.args.marks.now c.in-Some.index within found)

pub returns-in_default : goal.returns-in_default
returns-in_default c =
    marks_nothing (table_keys c.args.table (syntax c.args.ast.now)) c.in_default.ensures.distinct c.args.name.now c.args.marks.now (sym c.in_default.ensures.index)
