use Rattle.std.proofs.Common.{false, length, arith, sym, ap, subst, length-set}
use Rattle.cfgsets.specs.Waiting.{IsStack}
use Rattle.cfgsets.proofs.Stacking.{last_within, stack_next}
use Rattle.cfgsets.proofs.waiting.Waiting.next.Goals as goal

pub set-requires : goal.set-requires
set-requires c = last_within _ _ c.self.invariant.0 _ _ c.in_ok-number.ensures.items

pub invariant_of-self-2 : goal.invariant_of-self-2
invariant_of-self-2 c =
    let x = c.self.inside.bits in
    let n = c.in_ok-number.number in (
      subst (λ l. IsStack l c.pop.new.self.items) (sym c.set.ensures.bits) (stack_next _ _ c.self.invariant.0 _ _ c.in_ok-number.ensures.items),
      omega (arith, c.self.invariant.1, c.pop.ensures.capacity, ap length c.set.ensures.bits, length-set x n false),
    )
