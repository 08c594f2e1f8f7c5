use Rattle.std.proofs.Common.{true, false, sym, ◌∙◌, arith}
use Rattle.bison_words.proofs.Named.{by_row, by_none}
use Rattle.bison_words.proofs.directive.named.Goals as goal

pub returns-then-eq : goal.returns-then-eq
returns-then-eq c = by_row c.args.table.now c.args.name.now c.loop-spelling.spelling-index c.loop-spelling.invariant _ c.loop-spelling-test.true true (sym c.eq.ensures ∙ c.if-eq.true)

pub loop-spelling-preserved : goal.loop-spelling-preserved
loop-spelling-preserved c = by_row c.args.table.now c.args.name.now c.loop-spelling.spelling-index c.loop-spelling.invariant _ c.loop-spelling-test.true false (sym c.eq.ensures ∙ c.if-eq.false)

pub returns : goal.returns
returns c = by_none c.args.table.now c.args.name.now c.loop-spelling.spelling-index c.loop-spelling.invariant (omega arith)
