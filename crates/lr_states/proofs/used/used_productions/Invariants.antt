use Rattle.std.proofs.Common.{◌≡◌, ◌↔◌, ◌<◌, ℕ, length}
use Rattle.cfgrammar.specs.Numbered.{core}
use Rattle.lr_states.specs.Inner.Closure.{IsOn}
use Rattle.lr_states.specs.Viable.{IsUsed}
use Rattle.lr_states.proofs.used.used_productions.Given as goal

-- the bits of the productions so far are known, and the others are off
abbrev pub invariant-loop-production : goal.invariant-loop-production
invariant-loop-production l = record {
  long : length l.used ≡ l.count;
  bits : (p : ℕ) → IsOn l.used p ↔ ((p < l.production) × IsUsed (core l.grammar) p);
}
