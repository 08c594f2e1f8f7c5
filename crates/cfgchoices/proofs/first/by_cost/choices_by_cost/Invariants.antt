use Rattle.cfgchoices.specs.Inner.Candidates.{CheaperChosen, candidates_of}
use Rattle.cfgchoices.proofs.first.by_cost.choices_by_cost.Given as goal

abbrev pub invariant-loop-cost : goal.invariant-loop-cost
invariant-loop-cost g l = CheaperChosen l.optimal (candidates_of g.S.Storage.number l.chooser) l.cost
