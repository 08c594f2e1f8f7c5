use Rattle.std.proofs.Common.{take}
use Rattle.search.specs.Reachable.{FoundBy, Reaches}
use Rattle.cfgrammar.specs.Numbered.{core}
use Rattle.lr_states.specs.Inner.Closure.{AddsTo, Begins, IsOn}
use Rattle.lr_states.proofs.Entered.{IsOneOf}
use Rattle.lr_states.proofs.closure.Used.enter_rule.Given as goal

-- the productions so far are entered, and what they begin with is reached
abbrev pub invariant-loop-production : goal.invariant-loop-production
invariant-loop-production l =
    Reaches (FoundBy (λ p. Begins (core l.self.grammar.now) (IsOn l.self.bits) p.0) (take l.production-index l.production-items)) l.fn.search l.search
    × AddsTo (IsOneOf (IsOn l.self.bits) (take l.production-index l.production-items)) l.fn.entered l.entered
