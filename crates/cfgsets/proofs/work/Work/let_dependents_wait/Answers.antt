use Rattle.std.proofs.Common.{◌<◌, subst, sym, Contains}
use Rattle.cfgsets.specs.Work.{dependents_of}
use Rattle.cfgsets.proofs.work.Work.let_dependents_wait.Goals as goal

pub queue-requires-clause-within : goal.queue-requires-clause-within
queue-requires-clause-within c =
    let w = c.loop-rule.invariant in
    λ p h. subst (λ n. p < n) (sym w.letting_wait.shape)
    (c.requires.within c.in-Some.rule p (subst (λ l. Contains (dependents_of l c.in-Some.rule) p) w.dependents h))
