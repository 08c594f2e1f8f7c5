use Rattle.std.proofs.Common.{◌≡◌, ◌<◌, [], ◌∷◌, ◌++◌, List, Bool, ℕ, false, true, length, slice_get, Some, MatchBool, arith, sym, ap, subst, length-set}
use Rattle.cfgsets.specs.Waiting.{IsStack}
use Rattle.cfgsets.proofs.Stacking.{stack_room, stack_put, stack_again}
use Rattle.cfgsets.proofs.waiting.Waiting.put.Goals as goal

-- what the bit was
was : (x : List Bool) (n : ℕ) {b c : Bool} → b ≡ c → MatchBool b (slice_get x n ≡ Some false) (slice_get x n ≡ Some true)
    → MatchBool c (slice_get x n ≡ Some false) (slice_get x n ≡ Some true)
was x n e h = subst (λ d. MatchBool d (slice_get x n ≡ Some false) (slice_get x n ≡ Some true)) e h

within : (n : ℕ) {x y : List Bool} → x ≡ y → n < length y → n < length x
within n e h = subst (λ l. n < length l) (sym e) h

pub push_reserved-requires : goal.push_reserved-requires
push_reserved-requires c =
    let x = c.self.inside.bits in
    let n = c.args.number in
    let room = stack_room _ _ c.self.invariant.0 n (within n c.self.view_is c.requires) (was x n c.if-set.true c.set.ensures.changed) in
    omega (arith, room, c.self.invariant.1, c.self.inside.stack.ok.0)

pub invariant_of-self : goal.invariant_of-self
invariant_of-self c =
    let x = c.self.inside.bits in
    let n = c.args.number in (
      subst (λ l. IsStack c.set.new.self l) (sym c.push_reserved.ensures.items)
          (subst (λ l. IsStack l (c.self.inside.stack.items ++ n ∷ [])) (sym c.set.ensures.bits)
          (stack_put _ _ c.self.invariant.0 n (within n c.self.view_is c.requires) (was x n c.if-set.true c.set.ensures.changed))),
      omega (arith, c.self.invariant.1, c.push_reserved.ensures.capacity, ap length c.set.ensures.bits, length-set x n true),
    )

pub invariant_of-self-else-set : goal.invariant_of-self-else-set
invariant_of-self-else-set c =
    let x = c.self.inside.bits in
    let n = c.args.number in (
      subst (λ l. IsStack l c.self.inside.stack.items) (sym c.set.ensures.bits)
          (stack_again _ _ c.self.invariant.0 n (was x n c.if-set.false c.set.ensures.changed)),
      omega (arith, c.self.invariant.1, ap length c.set.ensures.bits, length-set x n true),
    )
