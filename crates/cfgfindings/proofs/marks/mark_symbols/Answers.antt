use Rattle.std.proofs.Common.{◌<◌, ◌≤◌, [], arith, length, subst, sym, ◌∙◌}
use Rattle.std.proofs.lemmas.List.Folds.{flat_map-map}
use Rattle.cfgrammar.specs.SyntaxView.{symbol_view}
use Rattle.cfgrammar.specs.AstSymbol.{Symbol}
use Rattle.cfgrammar.specs.TreeView.{syntax}
use Rattle.cfgfindings.specs.Inner.Marks.{Marks, symbol_names, table_keys}
use Rattle.cfgfindings.proofs.Marking.{marks_all, marks_more, marks_none}
use Rattle.cfgfindings.proofs.marks.mark_symbols.Goals as goal
use Rattle.cfgfindings.proofs.marks.mark_symbols.Goals.{in-Some, in_default}

pub loop-symbol-init : goal.loop-symbol-init
loop-symbol-init c = marks_none _ _

pub mark-requires : goal.mark-requires
mark-requires c = c.loop-symbol.invariant.shape ∙ c.requires

pub loop-symbol-preserved : goal.loop-symbol-preserved
loop-symbol-preserved c =
    let keys = table_keys c.args.table (syntax c.args.ast.now) in
    let symbols = c.args.symbols.now in
    let mid = c.loop-symbol.marks in
    let new = c.match-symbol_name.marks in
    let within : c.loop-symbol.symbol-index < length symbols = omega (arith, c.loop-symbol-test.true) in
    marks_more keys (λ (symbol : Symbol). symbol_names c.args.rules (symbol_view symbol)) symbols c.loop-symbol.symbol-index _ _ mid new within c.symbol-item.is
    c.loop-symbol.invariant (elim c.match-symbol_name.branch [
      | in-Some w ↦ subst (λ names. Marks keys names mid new) (rw w.in-Some.is at c.symbol_name.ensures) (subst (Marks keys _ mid) (sym w.marks-is) w.mark.ensures)
      | in_default w ↦ subst (λ names. Marks keys names mid new) (rw w.in_default.is at c.symbol_name.ensures) (subst (Marks keys [] mid) (sym w.marks-is) (marks_none keys mid))
    ])

pub returns : goal.returns
returns c =
    let keys = table_keys c.args.table (syntax c.args.ast.now) in
    let symbols = c.args.symbols.now in
    let past : length symbols ≤ c.loop-symbol.symbol-index = omega (arith, c.loop-symbol-test.false, c.loop-symbol.auto.symbol-index-end) in
    subst (λ names. Marks keys names c.args.marks.now c.loop-symbol.marks) (sym (flat_map-map (symbol_names c.args.rules) symbol_view symbols))
    (marks_all keys (λ (symbol : Symbol). symbol_names c.args.rules (symbol_view symbol)) symbols _ _ _ past c.loop-symbol.invariant)
