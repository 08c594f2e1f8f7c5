use Rattle.std.proofs.Common.{None, sym, subst, length, replicate, ap, ◌∙◌, ◌<◌}
use Rattle.std.proofs.lemmas.Result.{IfOk-weaker}
use Rattle.cfgcycles.specs.StepLists.{AreWithin, HasStep}
use Rattle.cfgcycles.specs.StepPaths.{IsShortestOf}
use Rattle.cfgcycles.proofs.shortest.shortest_cycle.Goals as goal

pub find_cycle-requires-clause-rule : goal.find_cycle-requires-clause-rule
find_cycle-requires-clause-rule c = subst (λ l. c.args.rule < length l) (sym c.in_ok-layers.ensures.steps) c.requires.rule

pub find_cycle-requires-clause-within : goal.find_cycle-requires-clause-within
find_cycle-requires-clause-within c = subst AreWithin (sym c.in_ok-layers.ensures.steps) c.requires.within

pub find_cycle-requires-clause-found : goal.find_cycle-requires-clause-found
find_cycle-requires-clause-found c = c.in_ok-layers.ensures.found ∙ ap (λ l. replicate (length l) None) (sym c.in_ok-layers.ensures.steps)

pub returns : goal.returns
returns c = IfOk-weaker c.find_cycle.result _ _ (λ found h. subst (λ l. IsShortestOf (HasStep l) c.args.rule found) c.in_ok-layers.ensures.steps h) c.find_cycle.ensures.cycle
