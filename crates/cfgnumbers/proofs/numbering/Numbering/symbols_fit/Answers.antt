use Rattle.std.proofs.Common.{arith}
use Rattle.std.proofs.lemmas.Bool.{false≢true}
use Rattle.cfgnumbers.specs.TablesView.{file_of, implicit_in}
use Rattle.cfgnumbers.proofs.Symbols.{width_more, width_within}
use Rattle.cfgnumbers.proofs.numbering.Numbering.symbols_fit.Goals as goal

pub loop-symbol-preserved : goal.loop-symbol-preserved
loop-symbol-preserved g c =
    let more = width_more (implicit_in c.args.self.now) (file_of c.args.self.now) c.args.symbols.now c.loop-symbol.symbol-index c.symbol-item.result c.loop-symbol-test.true c.symbol-item.is in
    omega (arith, more, c.loop-symbol.invariant, c.width-width.ensures, c.if-left-width.false)

pub returns-then-left-width : goal.returns-then-left-width
returns-then-left-width g c =
    let all = width_within (implicit_in c.args.self.now) (file_of c.args.self.now) c.args.symbols.now c.loop-symbol.symbol-index c.symbol-item.result c.loop-symbol-test.true c.symbol-item.is in
    (λ no. absurd (false≢true no), λ fit. absurd (omega (arith, all, fit, c.loop-symbol.invariant, c.width-width.ensures, c.if-left-width.true)))
