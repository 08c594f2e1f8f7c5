use Rattle.std.proofs.Common.{arith, sym}
use Rattle.cfgrammar.specs.NumberedSymbols.{sym_of}
use Rattle.lr_states.proofs.Stepped.{read_fits}
use Rattle.lr_states.proofs.successors.push_step.Goals as goal

pub overflow_add-advanced : goal.overflow_add-advanced
overflow_add-advanced c =
    let fits = read_fits _ c.args.grammar.now c.invariant_holds.ensures c.args.item c.requires (sym_of (λ s. s) c.in-Some.symbol) (sym c.in-Some.ensures.is) in
    omega (arith, fits)
