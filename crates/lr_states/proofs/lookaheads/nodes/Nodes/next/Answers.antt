use Rattle.std.proofs.Common.{◌≡◌, ◌+◌, Some, ap, arith, subst, sym}
use Rattle.lr_states.specs.Inner.Graph.{next}
use Rattle.lr_states.specs.Inner.Numbers.{at_place, block_of, number, numbers_of, place_of_symbol}
use Rattle.lr_states.specs.declared.lookaheads.nodes.Block.{Block}
use Rattle.lr_states.proofs.Numbering.{start_within}
use Rattle.lr_states.proofs.Ready.{next_low}
use Rattle.lr_states.proofs.lookaheads.nodes.Nodes.next.Goals as goal

pub overflow_add-result-in-None : goal.overflow_add-result-in-None
overflow_add-result-in-None c =
    let (g, r, is) = c.requires in
    let low = start_within g c.args.states.now (numbers_of c.args.self.now) r.numbers r.targets r.states.sorted in
    omega (arith, low)

pub overflow_add-result : goal.overflow_add-result
overflow_add-result c =
    let n = numbers_of c.args.self.now in
    let x = c.args.states.now in
    let (g, r, is) = c.requires in
    let low = next_low g x n r c.args.state c.args.rule is in
    let found = subst (λ l. Some c.in-Some.place ≡ place_of_symbol l c.args.rule) c.targets.ensures c.in-Some.ensures in
    let value : number n x (next c.args.state c.args.rule) ≡ (block_of n c.args.state).rules + c.in-Some.place =
    ap (at_place (n.tokens + n.rules) (block_of n c.args.state).rules) (sym found) in
    let here = ap (λ (b : Block). b.rules) c.block.ensures in
    omega (arith, low, value, here)
