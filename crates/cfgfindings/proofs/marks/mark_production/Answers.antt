use Rattle.std.proofs.Common.{◌≡◌, Bool, true, false, List, map, sym, subst}
use Rattle.std.specs.List.{flat_map}
use Rattle.cfgrammar.specs.Syntax.{Production, Syntax}
use Rattle.cfgrammar.specs.SyntaxView.{production_view, symbol_view}
use Rattle.cfgrammar.specs.AstSymbol.{Symbol}
use Rattle.cfgrammar.specs.TreeView.{syntax}
use Rattle.cfgfindings.specs.Inner.Marks.{Marks, names_by, symbol_names, table_keys}
use Rattle.cfgfindings.specs.declared.marks.Table.{Table}
use Rattle.cfgfindings.proofs.Marking.{marks_then}
use Rattle.cfgfindings.proofs.marks.mark_production.Goals as goal

-- the marks of a known table are those of the table
of_table : (s : Syntax) (production : Production) (old new : List Bool) (table known : Table) → table ≡ known
    → Marks (table_keys table s) (names_by known production) old new → Marks (table_keys table s) (names_by table production) old new
of_table s production old new table known is = subst (λ other. Marks (table_keys table s) (names_by other production) old new) (sym is)

pub returns-in-Rules : goal.returns-in-Rules
returns-in-Rules c =
    let s = syntax c.args.ast.now in
    of_table s (production_view c.args.production.now) c.args.marks.now c.mark_symbols.new.marks _ _ c.in-Rules.is
    (subst (λ (symbols : List Symbol). Marks (table_keys c.args.table s) (flat_map (symbol_names true) (map symbol_view symbols)) c.args.marks.now c.mark_symbols.new.marks)
    c.deref.ensures.value c.mark_symbols.ensures)

pub returns-in-Tokens : goal.returns-in-Tokens
returns-in-Tokens c = of_table (syntax c.args.ast.now) (production_view c.args.production.now) c.args.marks.now c.mark_requested.new.marks _ _ c.in-Tokens.is c.mark_requested.ensures

pub returns-in-Precedences : goal.returns-in-Precedences
returns-in-Precedences c =
    let s = syntax c.args.ast.now in
    let old = c.args.marks.now in
    let mid = c.mark_symbols-in-Precedences.new.marks in
    let new = c.mark_requested-in-Precedences.new.marks in
    of_table s (production_view c.args.production.now) old new _ _ c.in-Precedences.is
    (marks_then (table_keys c.args.table s) _ _ old mid new
    (subst (λ (symbols : List Symbol). Marks (table_keys c.args.table s) (flat_map (symbol_names false) (map symbol_view symbols)) old mid)
    c.deref-in-Precedences.ensures.value c.mark_symbols-in-Precedences.ensures)
    c.mark_requested-in-Precedences.ensures)
