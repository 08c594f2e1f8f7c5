use Rattle.std.proofs.Common.{false, sym, subst}
use Rattle.cfgrammar.specs.Numbered.{Numbered}
use Rattle.cfgfindings.specs.Inner.Reached.{Knows}
use Rattle.cfgfindings.proofs.needless.Used.new.Goals as goal

pub invariant_of-result : goal.invariant_of-result
invariant_of-result c = subst (λ (g : Numbered). Knows g false c.in_ok-reached.reached) (sym c.grammar.ensures) c.in_ok-reached.ensures
